-- 02, L5: undo's contract gives its claim over runs; and equal contents draw and export the same.
use mathlib.Core.Path.{◌≡◌, refl, sym, ◌∙◌, ap}
use mathlib.Core.List.{List, [], ◌∷◌}
use Prim.Native.Nat.{ℕ}
use lib.ListN.{length, length-set}
use Rattle.common.specs.Answers.{done}
use Rattle.editors.specs.declared.Editor.{Editor}
use Rattle.chip.specs.declared.Chip.{Chip}
use Rattle.chip.specs.declared.Answered.{Answered}
use Rattle.registers.specs.declared.address.Register.{Register}
use Rattle.registers.specs.declared.address.Register.TheVariants.{Pixel, Sprite, Palette, Video, Ivr, Converter, Channel, Dcsr, Status, Empty}
use Rattle.registers.specs.Address.{register_at}
use Rattle.registers.specs.Registers.{store_put}
use Rattle.contents.specs.Contents.{contents}
use Rattle.contents.specs.Widths.{Widths}
use Rattle.contents.proofs.Determined.{same_store, same-sprites, same-video}
use Rattle.contents.proofs.Same.{either_register}
use Rattle.page.specs.UndoRecord.{entry_register_of, entry_contents}
use Rattle.page.specs.Undo.{Undoes}
use Rattle.export.specs.Export.{exported, bytes_of}
use Rattle.draw.specs.Drawing.{all_border, is_border, screen_pen, main_pen, entry_at}
use Rattle.runs.specs.World.{World, places_of, edited}
use Rattle.runs.specs.Call.{undo, Reply, number}
use Rattle.runs.specs.Run as run
use Rattle.runs.specs.Run.{Made, Makes}
use Rattle.runs.specs.Trace.{Handed, lent_on, Snapshot, Trace, Restored}
use Rattle.runs.proofs.Calls.{by_answer, fixed}
use Rattle.runs.proofs.Views.{newest_of}
use Rattle.runs.proofs.Within.{call-widths}
use Rattle.runs.proofs.Traces.{knows}
use Rattle.runs.proofs.TakesBack.{takes_back, none_left}
use Rattle.plus.specs.Undo.{BackAgain, UndoTold}

-- two chips restored alike have the same contents
same-contents :
    (s : Snapshot) (w : World) (c d : Chip) (store t : List ℕ) → Restored s w c store → Restored s w d t → (x : Register) →
    contents c store x ≡ contents d t x
same-contents s w c d store t r q x =
    either_register (register_at s.address) x
    (λ e. rw e (r.own ∙ sym q.own))
    (λ n. r.others x n ∙ sym (q.others x n))

-- the store says nothing of a register outside it
no_store : (c d : Chip) (store t : List ℕ) (x : Register) → contents c store x ≡ contents d t x → contents c [] x ≡ contents d [] x
no_store c d store t (Pixel i) e = refl
no_store c d store t (Sprite n p) e = e
no_store c d store t (Palette i) e = e
no_store c d store t (Video v) e = e
no_store c d store t Ivr e = e
no_store c d store t Converter e = e
no_store c d store t (Channel n r) e = e
no_store c d store t Dcsr e = e
no_store c d store t Status e = e
no_store c d store t Empty e = e

same_bytes :
    (c d : Chip) (store t : List ℕ) → ((x : Register) → contents c store x ≡ contents d t x) → (l : List ℕ) → bytes_of c l ≡ bytes_of d l
unfolding bytes_of
same_bytes c d store t same [] = refl
same_bytes c d store t same (a ∷ l) =
    rw (no_store c d store t (register_at a) (same (register_at a)), same_bytes c d store t same l)

same-drawn :
    (c d : Chip) (store t ram : List ℕ) (x : ℕ) → c.gate ≡ d.gate → c.crtc ≡ d.crtc → c.video ≡ d.video → c.sprites ≡ d.sprites →
    store ≡ t → entry_at c ram store x ≡ entry_at d ram t x
unfolding entry_at all_border is_border screen_pen main_pen
same-drawn c d store t ram x e f g h i = rw (e, f, g, h, i)

-- a store that is put to keeps its length
put-length : (store : List ℕ) (x : Register) (b : ℕ) → length (store_put store x b) ≡ length store
put-length store (Pixel i) b = length-set store i b
put-length store (Sprite n p) b = refl
put-length store (Palette i) b = refl
put-length store (Video v) b = refl
put-length store Ivr b = refl
put-length store Converter b = refl
put-length store (Channel n r) b = refl
put-length store Dcsr b = refl
put-length store Status b = refl
put-length store Empty b = refl

module _ {ed : Editor} {w v : World} {r : Reply} {start : World} {log : List Made} {s : Snapshot} {ss : List Snapshot}
    (t : Trace ed start log w (s ∷ ss)) (k : Makes w (undo ed) r v) (z : r.answer ≡ done) where
  after-widths : Widths v.chip
  after-widths = rw (fixed k).world_is (call-widths w (undo ed) tt (knows t).widths)

  after-length : length v.lent.store ≡ length w.lent.store
  after-length =
      let e = newest_of w ed in
      rw (fixed k).world_is
      (by_answer (λ u. length u.lent.store ≡ length w.lent.store) w (undo ed)
      (λ y. put-length w.lent.store (entry_register_of e) (entry_contents e)) refl)

  pub back-again : BackAgain s w v
  back-again =
      let b = takes_back t k z in
      record {
        back = b;
        shown =
            λ c store widths long q gate crtc.
            let same = same-contents s w v.chip c v.lent.store store b.restored q in
            record {
              drawn =
                  λ ram x.
                  same-drawn v.chip c v.lent.store store ram x (b.gate_array ∙ sym gate) (b.crtc ∙ sym crtc)
                  (same-video v.chip c v.lent.store store after-widths widths same)
                  (same-sprites v.chip c v.lent.store store after-widths widths same)
                  (same_store v.chip c v.lent.store store after-widths widths same (after-length ∙ sym long));
              bytes = same_bytes v.chip c v.lent.store store same exported;
            };
      }

-- undo's contract is a call of undo on every world with this chip, store and places
makes :
    {c : Chip} {ed : Editor} {store places store' : List ℕ} {r : Answered} {w : World} → Undoes c ed store places store' r → w.chip ≡ c →
    lent_on w ed ≡ record { store = store; places = places } →
    Makes w (undo ed) (number r.answer) (edited w ed r.chip store' (places_of w.lent ed))
makes {ed = ed} {store' = store'} {r = r} {w = w} u e h =
    let s = ap (λ (x : Handed). x.store) h in
    let p = ap (λ (x : Handed). x.places) h in
    run.undo ed store' r (rw (e, s, p) u)

pub told :
    {c : Chip} {ed : Editor} {store places store' : List ℕ} {r : Answered} → Undoes c ed store places store' r →
    UndoTold c ed store places store' r
told {c} {ed} {store} {places} {store'} {r} u =
    record {
      undoes = u;
      takes_back =
          λ start w log s ss t e h z.
          let p : places_of w.lent ed ≡ places = ap (λ (x : Handed). x.places) h in
          rw (← p) (back-again t (makes u e h) z);
      none_left = λ start w log t e h z. none_left t (makes u e h) z;
    }
