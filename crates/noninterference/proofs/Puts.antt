-- A byte that an editor puts into a register: what it does to what one editor can depend on.
use mathlib.Core.Path.{◌≡◌, refl, ap}
use mathlib.Core.Bool.{Bool, true, false}
use mathlib.Core.List.{List, [], ◌∷◌}
use Prim.Native.Nat.{ℕ, zero, suc, ◌/◌, ◌%◌}
use native.Mathlib.Omega.{arith}
use lib.Dec.{ltb}
use lib.ListN.{length}
use Rattle.common.specs.Answers.{done, not_yours}
use Rattle.common.specs.Choice.{if, both, either, bit}
use Rattle.editors.specs.declared.Editor.{Editor}
use Rattle.editors.specs.declared.Editor.TheVariants.{Song, Picture}
use Rattle.editors.specs.declared.Table.{Table}
use Rattle.editors.specs.Table.{other, names, mine}
use Rattle.sound.specs.declared.Channel.{Channel as Voice}
use Rattle.sound.specs.Line.{channel_of, off_channel}
use Rattle.picture.specs.declared.sprite.Sprite.{Sprite as Figure}
use Rattle.picture.specs.Sprites.{shown, written, sprite_contents}
use Rattle.picture.specs.Palette.{kept_byte_of}
use Rattle.crtc.specs.declared.Video.{Video as Screen}
use Rattle.chip.specs.declared.Chip.{Chip}
use Rattle.registers.specs.declared.address.Register.{Register}
use Rattle.registers.specs.declared.address.Register.TheVariants.{Pixel, Sprite, Palette, Video, Ivr, Converter, Channel, Dcsr, Status, Empty}
use Rattle.registers.specs.Owners.{owns, owns_channel}
use Rattle.registers.specs.Registers.{owner_answer, register_answer, channel_written, video_written, control_by, dcsr_written, register_written, store_put, dcsr, register_read}
use Rattle.contents.specs.Contents.{video_contents, channel_contents, contents}
use Rattle.noninterference.specs.TwoRuns.{own_or_dcsr}
use Rattle.noninterference.proofs.Sames.{Same, clash, same-other, same_set}
use Rattle.noninterference.proofs.Blocks.{Blocks, blocks_self, on-channels, on-sprites, on-palette, on-video, on-pixels}

-- ---- what is one editor's is not the other's while a table holds
names-other : (e : Editor) (b : Bool) → names (other e) b ≡ true → names e b ≡ false
names-other Song true h = refl
names-other Song false h = clash h refl
names-other Picture true h = clash h refl
names-other Picture false h = refl

names_not : (e : Editor) (b : Bool) → names e b ≡ true → names (other e) b ≡ false
names_not Song true h = clash h refl
names_not Song false h = refl
names_not Picture true h = refl
names_not Picture false h = clash h refl

-- a register with contents that an editor may write is its own
pub answer-owns : (b : Bool) → owner_answer b ≡ done → b ≡ true
answer-owns true h = refl
answer-owns false h = absurd (omega arith)

module _ (t : Table) (held : t.held ≡ true) (e : Editor) (b : Bool) where
  other_not : owner_answer (mine t (other e) b) ≡ done → mine t e b ≡ false
  other_not h = rw held (names-other e b (rw held at (answer-owns (mine t (other e) b) h)))

  mine_not : mine t e b ≡ true → mine t (other e) b ≡ false
  mine_not h = rw held (names_not e b (rw held at h))

control_not :
    (t : Table) → t.held ≡ true → (e : Editor) (b n : ℕ) (d : Voice) → owns_channel t e n ≡ true → d ≡ control_by t (other e) b n d
control_not t held e b n d h = rw (mine_not t held e (bit n t.channels) h)

-- either of a test and one that fails
or_false : (b : Bool) → either b false ≡ true → b ≡ true
or_false true h = refl
or_false false h = h

-- IVR can be written by neither
pub ivr_not : (t : Table) (e : Editor) {A : Type 0} → t.held ≡ true → register_answer t e Ivr ≡ done → A
ivr_not t e held h = absurd (let z : not_yours ≡ done = rw held at h in omega arith)

module _ (t : Table) (held : t.held ≡ true) (e : Editor) where
  -- ---- the same byte put on both by one editor

  dcsr-same :
      (f : Editor) (b : ℕ) (x y : List Voice) → Same (owns_channel t e) off_channel x y →
      Same (owns_channel t e) off_channel (dcsr_written t f x b) (dcsr_written t f y b)
  dcsr-same f b x y s = record { size = refl; each = go }
    where
      go : (n : ℕ) → owns_channel t e n ≡ true → channel_of (dcsr_written t f x b) n ≡ channel_of (dcsr_written t f y b) n
      go zero h = ap (control_by t f b 0) (s.each 0 h)
      go (suc zero) h = ap (control_by t f b 1) (s.each 1 h)
      go (suc (suc zero)) h = ap (control_by t f b 2) (s.each 2 h)
      go (suc (suc (suc n))) h = refl

  dcsr_as :
      (p q : Table) → p ≡ t → q ≡ t → (f : Editor) (b : ℕ) (x y : List Voice) → Same (owns_channel t e) off_channel x y →
      Same (owns_channel t e) off_channel (dcsr_written p f x b) (dcsr_written q f y b)
  dcsr_as p q i j f b x y s = rw (i, j) (dcsr-same f b x y s)

  pub put_same :
      (f : Editor) {c d : Chip} {l m : List ℕ} → c.editing.table ≡ t → d.editing.table ≡ t → (x : Register) (b v : ℕ) →
      register_answer t f x ≡ done → Blocks t e c l d m →
      Blocks t e (register_written c f x b) (store_put l x v) (register_written d f x b) (store_put m x v)
  put_same f i j (Pixel n) b v k w = on-pixels w _ _ (same_set n v v w.pixels (λ o. refl))
  put_same f i j (Sprite n p) b v k w =
      on-sprites w _ _ (same_set n _ _ w.sprites (λ o. ap (λ (s : Figure). written s p b) (w.sprites.each n o)))
  put_same f i j (Palette n) b v k w = on-palette w _ _ (same_set n _ _ w.palette (λ o. refl))
  put_same f i j (Video r) b v k w = on-video w _ _ (λ h. ap (λ (y : Screen). video_written y r b) (w.video h))
  put_same f i j Ivr b v k w = ivr_not t f held k
  put_same f i j Converter b v k w = w
  put_same f i j (Channel n r) b v k w =
      on-channels w _ _ (same_set n _ _ w.channels (λ o. ap (λ (y : Voice). channel_written y r b) (w.channels.each n o)))
  put_same f {c} {d} i j Dcsr b v k w = on-channels w _ _ (dcsr_as c.editing.table d.editing.table i j f b _ _ w.channels)
  put_same f i j Status b v k w = w
  put_same f i j Empty b v k w = w

  -- ---- one put by the other editor

  dcsr-other : (b : ℕ) (x : List Voice) → length x ≡ 3 → Same (owns_channel t e) off_channel x (dcsr_written t (other e) x b)
  dcsr-other b x s = record { size = s; each = go x s }
    where
      go :
          (x : List Voice) → length x ≡ 3 → (n : ℕ) → owns_channel t e n ≡ true →
          channel_of x n ≡ channel_of (dcsr_written t (other e) x b) n
      go x s zero h = control_not t held e b 0 _ h
      go x s (suc zero) h = control_not t held e b 1 _ h
      go x s (suc (suc zero)) h = control_not t held e b 2 _ h
      go [] s (suc (suc (suc n))) h = refl
      go (i ∷ []) s (suc (suc (suc n))) h = refl
      go (i ∷ j ∷ []) s (suc (suc (suc n))) h = refl
      go (i ∷ j ∷ k ∷ []) s (suc (suc (suc n))) h = refl
      go (i ∷ j ∷ k ∷ y ∷ x) s (suc (suc (suc n))) h = absurd (omega arith)

  dcsr-other_as :
      (p : Table) → p ≡ t → (b : ℕ) (x : List Voice) → length x ≡ 3 → Same (owns_channel t e) off_channel x (dcsr_written p (other e) x b)
  dcsr-other_as p i b x s = rw i (dcsr-other b x s)

  pub put_other :
      (c : Chip) (l : List ℕ) → c.editing.table ≡ t → length c.sound.channels ≡ 3 → (x : Register) (b v : ℕ) →
      register_answer t (other e) x ≡ done → Blocks t e c l (register_written c (other e) x b) (store_put l x v)
  put_other c l i s (Pixel n) b v k =
      on-pixels (blocks_self c l) _ _ (same-other l n v (other_not t held e (bit (n / 256) t.sprites) k))
  put_other c l i s (Sprite n p) b v k =
      on-sprites (blocks_self c l) _ _ (same-other _ n _ (other_not t held e (bit n t.sprites) k))
  put_other c l i s (Palette n) b v k =
      on-palette (blocks_self c l) _ _ (same-other _ n _ (other_not t held e (bit (n / 2) t.palette) k))
  put_other c l i s (Video r) b v k = on-video (blocks_self c l) _ _ (λ h. clash h (other_not t held e true k))
  put_other c l i s Ivr b v k = ivr_not t (other e) held k
  put_other c l i s Converter b v k = blocks_self c l
  put_other c l i s (Channel n r) b v k =
      on-channels (blocks_self c l) _ _ (same-other _ n _ (other_not t held e (bit n t.channels) k))
  put_other c l i s Dcsr b v k = on-channels (blocks_self c l) _ _ (dcsr-other_as c.editing.table i b _ s)
  put_other c l i s Status b v k = blocks_self c l
  put_other c l i s Empty b v k = blocks_self c l

  -- ---- what the editor owns has the same contents, and reads the same, with DCSR
  module _ {c d : Chip} {l m : List ℕ} (w : Blocks t e c l d m) where
    pub contents-same : (x : Register) → owns t e x ≡ true → contents c l x ≡ contents d m x
    contents-same (Pixel i) h = w.pixels.each i h
    contents-same (Sprite n p) h = ap (λ (y : Figure). sprite_contents y p) (w.sprites.each n h)
    contents-same (Palette i) h = ap (kept_byte_of i) (w.palette.each i h)
    contents-same (Video r) h = ap (λ (y : Screen). video_contents y r) (w.video h)
    contents-same Ivr h = clash h (rw held)
    contents-same Converter h = clash h refl
    contents-same (Channel n r) h = ap (λ (y : Voice). channel_contents y r) (w.channels.each n h)
    contents-same Dcsr h = clash h refl
    contents-same Status h = clash h refl
    contents-same Empty h = clash h refl

    both-same : (h : Bool) {a b : Bool} → (h ≡ true → a ≡ b) → both h a ≡ both h b
    both-same true k = k refl
    both-same false k = refl

    bit-same : (n : ℕ) (f : Voice → Bool) →
        both (owns_channel t e n) (f (channel_of c.sound.channels n)) ≡ both (owns_channel t e n) (f (channel_of d.sound.channels n))
    bit-same n f = both-same (owns_channel t e n) (λ h. ap f (w.channels.each n h))

    pub dcsr-shown : c.editing.table ≡ t → d.editing.table ≡ t → dcsr c e ≡ dcsr d e
    unfolding dcsr
    dcsr-shown i j =
        rw (
          i,
          j,
          bit-same 0 (λ v. v.interrupt),
          bit-same 1 (λ v. v.interrupt),
          bit-same 2 (λ v. v.interrupt),
          bit-same 2 (λ v. v.enabled),
          bit-same 1 (λ v. v.enabled),
          bit-same 0 (λ v. v.enabled),
          held,
        )

    pub read_same :
        c.editing.table ≡ t → d.editing.table ≡ t → (x : Register) (bus : ℕ) → own_or_dcsr t e x ≡ true →
        register_read c e l x bus ≡ register_read d e m x bus
    read_same i j (Pixel n) bus h = ap (λ y. y % 16) (w.pixels.each n (or_false _ h))
    read_same i j (Sprite n p) bus h = ap (λ (y : Figure). if (ltb p 4) (shown y p) bus) (w.sprites.each n (or_false _ h))
    read_same i j (Palette n) bus h = ap (kept_byte_of n) (w.palette.each n (or_false _ h))
    read_same i j (Video r) bus h = refl
    read_same i j Ivr bus h = refl
    read_same i j Converter bus h = refl
    read_same i j (Channel n r) bus h = dcsr-shown i j
    read_same i j Dcsr bus h = dcsr-shown i j
    read_same i j Status bus h = dcsr-shown i j
    read_same i j Empty bus h = refl
