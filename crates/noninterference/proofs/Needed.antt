-- Each premise is needed: without it two runs from reset break the claim.
use mathlib.Core.Path.{◌≡◌, refl, ap, sym, ◌∙◌, subst}
use mathlib.Core.Bool.{true, false}
use mathlib.Core.List.{List, [], ◌∷◌}
use Prim.Native.Nat.{ℕ, ◌+◌, ◌*◌}
use native.Mathlib.Omega.{arith}
use lib.ListN.{length, replicate, length-replicate, length-set}
use Rattle.common.specs.Choice.{bit}
use Rattle.editors.specs.declared.Editor.{Editor}
use Rattle.editors.specs.declared.Editor.TheVariants.{Song, Picture}
use Rattle.editors.specs.declared.Owners.{Owners}
use Rattle.editors.specs.declared.Table.{Table}
use Rattle.editors.specs.Table.{no_table, other, holding}
use Rattle.ring.specs.declared.Undo.{Undo}
use Rattle.lists.specs.Area.{no_lists}
use Rattle.ring.specs.Ring.{pushed}
use Rattle.picture.specs.Sprites.{written, shown, coordinate}
use Rattle.crtc.specs.Line.{raster_due, split_due, captured, frame_ends, frame_start, next_line, line_of}
use Rattle.words.specs.Words.{kind_of}
use Rattle.sound.specs.declared.Access.TheVariants.{Off}
use Rattle.sound.specs.declared.Accesses.{Accesses}
use Rattle.sound.specs.declared.Channel.{Channel as Voice}
use Rattle.sound.specs.declared.Sound.{Sound}
use Rattle.sound.specs.Channels.{word_at, pause_counted, active, fetched, controlled, turn_of}
use Rattle.sound.specs.Line.{off_channel, sound_after}
use Rattle.chip.specs.declared.Editing.{Editing}
use Rattle.chip.specs.Editors.{no_entries, started}
use Rattle.chip.specs.Reset.{reset_sound}
use Rattle.chip.specs.Interrupts.{source_of, acknowledge_answer, acknowledged, sound_served}
use Rattle.chip.specs.Step.{counters_stepped, stepped}
use Rattle.draw.specs.Drawing.{draw_answer}
use Rattle.registers.specs.Address.{register_at, sprite_at, video_at, channel_at}
use Rattle.registers.specs.Registers.{dcsr}
use Rattle.page.specs.Page.{page_answer, read_answer, write_answer, page_written, places_after}
use Rattle.runs.specs.World.{World, Buffers, places_of}
use Rattle.runs.specs.Call.{Call, read, write, ack, line, start, remove, Reply, byte, Typed, reply_to, world_after}
use Rattle.runs.specs.Run.{Made, Run, Each, made_over, world_over}
use Rattle.runs.specs.Reached.{Reached}
use Rattle.runs.specs.Pair.{Beside, ended, first, both as same, SameReplies}
use Rattle.runs.proofs.Calls.{AllPlaces}
use Rattle.runs.proofs.Opens.{differ, Good, opens_then, opens_good, mapped_chip, fresh, mapped, opened, good_reached}
use Rattle.runs.proofs.Runs.{Every, every, each-made, run-possible}
use Rattle.noninterference.specs.TwoRuns.{PageCall, reads, writes, own_or_dcsr, Removal, HandsOn, Fair, Session, Unaffected}
use Rattle.noninterference.proofs.Claim.{noninterference}
use Rattle.noninterference.proofs.Exist.{all_whole, theirs_fair, no_removal}

-- the claim, by what is asked of the world where the two runs begin and of each of their calls, and by the calls whose replies are the
-- same in both
pub record Claims (Begins : Table → World → Type 0) (Asks : Table → Editor → Call → Type 0) (Given : Call → Type 0) (t : Table) : Type 0 where
  pub unaffected :
      (e : Editor) {w v u : World} {es fs : List Made} → Begins t w → Run w es v → Run w fs u → Each (λ m. Asks t e m.asks) es →
      Each (λ m. Asks t e m.asks) fs → (b : Beside (PageCall (other e)) es fs) → SameReplies Given b → Unaffected t e w b

pub claimed : (t : Table) → Claims Session Fair Removal t
claimed t = record { unaffected = λ e s m n f g b j. (noninterference t).unaffected e s m n f g b j }

-- a session, whatever IVR is
pub record AnyIvr (t : Table) (w : World) : Type 0 where
  pub begun : World
  pub log : List Made
  pub reached : Reached begun log w
  pub hands : Each (λ m. HandsOn m.asks) log
  pub table : w.chip.editing.table ≡ t
  pub held : t.held ≡ true

-- calls of which the editor's reads may be any, and those of which the starts may be any
pub record AnyRead (t : Table) (e : Editor) (c : Call) : Type 0 where
  pub typed : Typed c
  pub starts : (o : Owners) → c ≡ start o → holding o ≡ t
  pub hands : HandsOn c

pub record AnyStart (t : Table) (e : Editor) (c : Call) : Type 0 where
  pub typed : Typed c
  pub reads : (a bus : ℕ) → c ≡ read e a bus → own_or_dcsr t e (register_at a) ≡ true
  pub hands : HandsOn c

-- the claim holds where a session and fair calls follow from what is asked
all_fair :
    (Asks : Table → Editor → Call → Type 0) (t : Table) (e : Editor) → ((c : Call) → Asks t e c → Fair t e c) → (es : List Made) →
    Each (λ m. Asks t e m.asks) es → Each (λ m. Fair t e m.asks) es
all_fair Asks t e fair [] f = tt
all_fair Asks t e fair (m ∷ es) f = (fair m.asks f.0, all_fair Asks t e fair es f.1)

holds :
    (Begins : Table → World → Type 0) (Asks : Table → Editor → Call → Type 0) (t : Table) → ((w : World) → Begins t w → Session t w) →
    ((e : Editor) (c : Call) → Asks t e c → Fair t e c) → Claims Begins Asks Removal t
holds Begins Asks t session fair =
    record {
      unaffected =
          λ e {w} {v} {u} {es} {fs} s m n f g b j.
          (claimed t).unaffected e (session w s) m n (all_fair Asks t e (fair e) es f) (all_fair Asks t e (fair e) fs g) b j;
    }

-- with the premise that was left out
pub record ThatIvr (t : Table) (w : World) : Type 0 where
  pub rest : AnyIvr t w
  pub ivr : bit 0 w.chip.interrupts.ivr ≡ true

pub record OwnReads (t : Table) (e : Editor) (c : Call) : Type 0 where
  pub rest : AnyRead t e c
  pub reads : (a bus : ℕ) → c ≡ read e a bus → own_or_dcsr t e (register_at a) ≡ true

pub record SameStarts (t : Table) (e : Editor) (c : Call) : Type 0 where
  pub rest : AnyStart t e c
  pub starts : (o : Owners) → c ≡ start o → holding o ≡ t

with-ivr : (t : Table) → Claims ThatIvr Fair Removal t
with-ivr t =
    holds ThatIvr Fair t
    (λ w s.
    record {
      begun = s.rest.begun;
      log = s.rest.log;
      reached = s.rest.reached;
      hands = s.rest.hands;
      table = s.rest.table;
      held = s.rest.held;
      ivr = s.ivr;
    })
    (λ e c f. f)

with-reads : (t : Table) → Claims Session OwnReads Removal t
with-reads t =
    holds Session OwnReads t (λ w s. s)
    (λ e c f. record { typed = f.rest.typed; reads = f.reads; starts = f.rest.starts; hands = f.rest.hands })

with-starts : (t : Table) → Claims Session SameStarts Removal t
with-starts t =
    holds Session SameStarts t (λ w s. s)
    (λ e c f. record { typed = f.rest.typed; reads = f.rest.reads; starts = f.starts; hands = f.rest.hands })

any_read : {t : Table} {e : Editor} {c : Call} → Fair t e c → AnyRead t e c
any_read f = record { typed = f.typed; starts = f.starts; hands = f.hands }

any_start : {t : Table} {e : Editor} {c : Call} → Fair t e c → AnyStart t e c
any_start f = record { typed = f.typed; reads = f.reads; hands = f.hands }

-- ---- where the two runs begin: from reset the unlocking bytes, then a byte that maps the page, then what else is given

-- buffers of the right lengths, with a word with INT at the start of RAM
pub record Lent (l : Buffers) : Type 0 where
  pub ram-size : length l.ram ≡ 65536
  pub word : word_at l.ram 0 ≡ 0x4010
  pub store-size : length l.store ≡ 4096
  pub places : (e : Editor) → length (places_of l e) ≡ 256
  pub slots-size : length l.slots ≡ 64

-- calls that lend nothing hand all buffers on, and the world that they come to is reached
good_hands : (c : Call) → Good c → HandsOn c
good_hands c g = record { lends = λ l q. absurd (g.lends_none l q) }

begins-hands :
    (l : Buffers) (cs : List Call) → Every Good cs → Each (λ m. HandsOn m.asks) (made_over (fresh l) (opens_then cs))
begins-hands l cs k = each-made HandsOn (opens_then cs) (fresh l) (every Good HandsOn good_hands (opens_then cs) (opens_good cs k))

begins :
    (l : Buffers) (cs : List Call) (w : World) → Lent l → Every Good cs → world_over (fresh l) (opens_then cs) ≡ w →
    Reached (fresh l) (made_over (fresh l) (opens_then cs)) w
begins l cs w s k q =
    subst (λ v. Reached (fresh l) (made_over (fresh l) (opens_then cs)) v) q (good_reached l (opens_then cs) s.places (opens_good cs k))

start_good : (o : Owners) → Good (start o)
start_good o = record { typed = tt; lends_none = λ l q. differ cc }

-- ---- two runs that break it: the song editor's last read shows other bytes
pub two_runs :
    {Begins : Table → World → Type 0} {Asks : Table → Editor → Call → Type 0} {Given : Call → Type 0} {t : Table} →
    Claims Begins Asks Given t →
    ((c : Call) → Asks t Song c → HandsOn c) → (w : World) (cs ds : List Call) → Begins t w → AllPlaces w → Every (Asks t Song) cs →
    Every (Asks t Song) ds → (b : Beside (PageCall Picture) (made_over w cs) (made_over w ds)) → SameReplies Given b → Unaffected t Song w b
two_runs {Asks = Asks} {t = t} claim hands w cs ds s p f g b j =
    let on = every (Asks t Song) HandsOn hands in
    claim.unaffected Song s (run-possible cs w p (all_whole w cs (on cs f))) (run-possible ds w p (all_whole w ds (on ds g)))
    (each-made (Asks t Song) cs w f) (each-made (Asks t Song) ds w g) b j

-- a call of both runs that removes no list
unremoved : {A : Type 0} (c : Call) → ((handle : ℕ) → c ≡ remove handle → ⊥) → Removal c → A
unremoved c f r = absurd (no_removal c f r)

abbrev pub shows : ℕ → Reply
shows b = record { answer = 0; told = byte b }

pub other-bytes : (m n : ℕ) → (m ≡ n → ⊥) → shows m ≡ shows n → ⊥
other-bytes m n d q = let p : byte m ≡ byte n = ap (λ (r : Reply). r.told) q in d cc

-- ---- a read of the other's sprite, and a start that gives a sprite to the other: it moves the sprite in the one run alone

abbrev just_held : Owners → Editing
just_held o = record { table = holding o; song = no_entries; picture = no_entries; lists = no_lists }

abbrev pub held : Buffers → Owners → World
held l o = record { chip = mapped_chip reset_sound 1 (just_held o); lent = l }

begins-held : (l : Buffers) (o : Owners) → world_over (fresh l) (opens_then (start o ∷ [])) ≡ held l o
unfolding started
begins-held l o = opened l (start o ∷ [])

pub session : (l : Buffers) (o : Owners) → Lent l → Session (holding o) (held l o)
session l o s =
    record {
      begun = fresh l;
      log = made_over (fresh l) (opens_then (start o ∷ []));
      reached = begins l (start o ∷ []) (held l o) s (start_good o, tt) (begins-held l o);
      hands = begins-hands l (start o ∷ []) (start_good o, tt);
      table = refl;
      held = refl;
      ivr = refl;
    }

abbrev first_picture : Owners
first_picture = record { channels = 0; sprites = 1; palette = 0 }

abbrev all_song : Owners
all_song = record { channels = 0; sprites = 0; palette = 0 }

abbrev moves : Call
moves = write Picture 0x6000 5

abbrev looks : Call
looks = read Song 0x6000 0

moved :
    (l : Buffers) → length l.store ≡ 4096 → reply_to (world_after (held l first_picture) moves) looks ≡ shows 5
unfolding write_answer page_answer read_answer register_at sprite_at page_written written shown coordinate places_after
moved l h = rw h (rw h refl)

unmoved : (l : Buffers) → length l.store ≡ 4096 → reply_to (held l first_picture) looks ≡ shows 0
unfolding page_answer read_answer register_at sprite_at shown
unmoved l h = rw h refl

moves-fair : (t : Table) → Fair t Song moves
moves-fair t = theirs_fair t Song moves (writes 0x6000 5) (omega arith, omega arith)

read_breaks : (l : Buffers) → Lent l → Claims Session AnyRead Removal (holding first_picture) → ⊥
read_breaks l s claim =
    let t = holding first_picture in
    let w = held l first_picture in
    let asked : AnyRead t Song looks =
    record { typed = (omega arith, omega arith); starts = λ o q. differ cc; hands = record { lends = λ k q. differ cc } } in
    let u =
    two_runs claim (λ c f. f.hands) w (moves ∷ looks ∷ []) (looks ∷ []) (session l first_picture s) s.places
    (any_read (moves-fair t), (asked, tt)) (asked, tt) (first (writes 0x6000 5) (same refl ended)) (unremoved looks (λ h q. differ cc), tt) in
    other-bytes 5 0 (λ q. omega arith) (sym (moved l s.store-size) ∙ u.replies.0 (reads 0x6000 0) ∙ unmoved l s.store-size)

looks-own : (a bus : ℕ) → looks ≡ read Song a bus → own_or_dcsr (holding all_song) Song (register_at a) ≡ true
unfolding register_at sprite_at
looks-own a bus q = let p : 0x6000 ≡ a = cc in rw (← p) refl

start_breaks : (l : Buffers) → Lent l → Claims Session AnyStart Removal (holding all_song) → ⊥
unfolding started
start_breaks l s claim =
    let t = holding all_song in
    let w = held l all_song in
    let asked : AnyStart t Song looks =
    record { typed = (omega arith, omega arith); reads = looks-own; hands = record { lends = λ k q. differ cc } } in
    let gives : AnyStart t Song (start first_picture) =
    record { typed = tt; reads = λ a bus q. differ cc; hands = record { lends = λ k q. differ cc } } in
    let u =
    two_runs claim (λ c f. f.hands) w (start first_picture ∷ moves ∷ looks ∷ []) (start first_picture ∷ looks ∷ []) (session l all_song s)
    s.places (gives, (any_start (moves-fair t), (asked, tt))) (gives, (asked, tt))
    (same refl (first (writes 0x6000 5) (same refl ended)))
    (unremoved (start first_picture) (λ h q. differ cc), (unremoved looks (λ h q. differ cc), tt)) in
    other-bytes 5 0 (λ q. omega arith) (sym (moved l s.store-size) ∙ u.replies.1.0 (reads 0x6000 0) ∙ unmoved l s.store-size)

-- ---- IVR bit 0 at 0: channels 0 and 2 meet an INT on the same line, and channel 2 is the picture editor's. It clears its own interrupt in
-- the one run alone; the acknowledge then takes the song editor's

abbrev pub last_picture : Owners
last_picture = record { channels = 4; sprites = 0; palette = 0 }

abbrev pub off : Accesses
off = record { first = Off; second = Off; third = Off }

-- IVR is 0, the two channels are enabled, a line passes, the table is given
abbrev raises : List Call
raises = write Song 0x6805 0 ∷ write Song 0x6c0f 5 ∷ line off 640 ∷ start last_picture ∷ []

-- a channel that is enabled, and after its INT
abbrev playing : Voice
playing = record { enabled = true; interrupt = false; address = 0; prescale = 0; pause = 0; count = 0; counter = 0; mark = 0; muted = false }

abbrev waits : Voice
waits = record { enabled = true; interrupt = true; address = 2; prescale = 0; pause = 0; count = 0; counter = 0; mark = 0; muted = false }

abbrev first_and_last : Voice → Sound
first_and_last d = record { channels = d ∷ off_channel ∷ d ∷ []; psg = replicate 16 0 }

abbrev unheld : Undo → Editing
unheld u = record { table = no_table; song = u; picture = no_entries; lists = no_lists }

-- the write of IVR is in the song editor's record
abbrev noted : Buffers → Buffers
noted l =
    record {
      ram = l.ram;
      store = l.store;
      song = places_after (mapped_chip reset_sound 1 (unheld no_entries)) Song l.store l.song 0x6805;
      picture = l.picture;
      slots = l.slots;
    }

abbrev sounding : Buffers → Voice → World
sounding l d = record { chip = mapped_chip (first_and_last d) 0 (unheld (pushed no_entries)); lent = noted l }

abbrev waiting : Buffers → World
waiting l = record { chip = mapped_chip (first_and_last waits) 0 (just_held last_picture); lent = noted l }

enabled :
    (l : Buffers) → length l.store ≡ 4096 →
    world_over (mapped l) (write Song 0x6805 0 ∷ write Song 0x6c0f 5 ∷ []) ≡ sounding l playing
unfolding write_answer page_answer register_at video_at channel_at page_written places_after
enabled l h = rw h (rw h refl)

interrupts :
    (l : Buffers) → length l.ram ≡ 65536 → length l.store ≡ 4096 → word_at l.ram 0 ≡ 0x4010 →
    world_after (sounding l playing) (line off 640) ≡ sounding l waits
unfolding draw_answer stepped counters_stepped sound_after turn_of pause_counted active fetched controlled kind_of line_of raster_due split_due captured frame_ends frame_start next_line
interrupts l h s k = rw (h, s, k) refl

begins-waiting : (l : Buffers) → Lent l → world_over (fresh l) (opens_then raises) ≡ waiting l
unfolding started
begins-waiting l s =
    opened l raises ∙ ap (λ (w : World). world_over w (line off 640 ∷ start last_picture ∷ [])) (enabled l s.store-size)
    ∙ ap (λ (w : World). world_after w (start last_picture)) (interrupts l s.ram-size s.store-size s.word)

raises_good : Every Good raises
raises_good = (
  record { typed = (omega arith, omega arith); lends_none = λ l q. differ cc },
  (
    record { typed = (omega arith, omega arith); lends_none = λ l q. differ cc },
    (record { typed = tt; lends_none = λ l q. differ cc }, (start_good last_picture, tt)),
  ),
)

any_ivr : (l : Buffers) → Lent l → AnyIvr (holding last_picture) (waiting l)
any_ivr l s =
    record {
      begun = fresh l;
      log = made_over (fresh l) (opens_then raises);
      reached = begins l raises (waiting l) s raises_good (begins-waiting l s);
      hands = begins-hands l raises raises_good;
      table = refl;
      held = refl;
    }

waiting-places : (l : Buffers) → Lent l → AllPlaces (waiting l)
unfolding places_after register_at video_at
waiting-places l s Song = length-set l.song 0 (0x6805 * 256 + 1) ∙ s.places Song
waiting-places l s Picture = s.places Picture

abbrev clears : Call
clears = write Picture 0x6c0f 0x10

abbrev pub asks : Call
asks = read Song 0x6c0f 0

taken : (l : Buffers) → length l.store ≡ 4096 → reply_to (world_after (world_after (waiting l) clears) ack) asks ≡ shows 1
unfolding write_answer page_answer read_answer register_at channel_at page_written acknowledge_answer acknowledged source_of sound_served dcsr
taken l h = rw h (rw h refl)

left-waiting : (l : Buffers) → length l.store ≡ 4096 → reply_to (world_after (waiting l) ack) asks ≡ shows 65
unfolding page_answer read_answer register_at channel_at acknowledge_answer acknowledged source_of sound_served dcsr
left-waiting l h = rw h refl

pub asks-dcsr : (a bus : ℕ) → asks ≡ read Song a bus → own_or_dcsr (holding last_picture) Song (register_at a) ≡ true
unfolding register_at channel_at
asks-dcsr a bus q = let p : 0x6c0f ≡ a = cc in rw (← p) refl

ivr_breaks : (l : Buffers) → Lent l → Claims AnyIvr Fair Removal (holding last_picture) → ⊥
ivr_breaks l s claim =
    let t = holding last_picture in
    let host : Fair t Song ack =
    record { typed = tt; reads = λ a bus q. differ cc; starts = λ o q. differ cc; hands = record { lends = λ k q. differ cc } } in
    let asked : Fair t Song asks =
    record {
      typed = (omega arith, omega arith);
      reads = asks-dcsr;
      starts = λ o q. differ cc;
      hands = record { lends = λ k q. differ cc };
    } in
    let cleared = theirs_fair t Song clears (writes 0x6c0f 0x10) (omega arith, omega arith) in
    let u =
    two_runs claim (λ c f. f.hands) (waiting l) (clears ∷ ack ∷ asks ∷ []) (ack ∷ asks ∷ []) (any_ivr l s) (waiting-places l s)
    (cleared, (host, (asked, tt))) (host, (asked, tt)) (first (writes 0x6c0f 0x10) (same refl (same refl ended)))
    (unremoved ack (λ h q. differ cc), (unremoved asks (λ h q. differ cc), tt)) in
    other-bytes 1 65 (λ q. omega arith) (sym (taken l s.store-size) ∙ u.replies.1.0 (reads 0x6c0f 0) ∙ left-waiting l s.store-size)

-- ---- there are such buffers

abbrev pub buffers : Buffers
buffers =
    record {
      ram = 0x10 ∷ 0x40 ∷ replicate 65534 0;
      store = replicate 4096 0;
      song = replicate 256 0;
      picture = replicate 256 0;
      slots = replicate 64 0;
    }

pub lent : Lent buffers
unfolding word_at
lent =
    record {
      ram-size = omega (arith, length-replicate {A = ℕ} 65534 0);
      word = refl;
      store-size = length-replicate {A = ℕ} 4096 0;
      places = each;
      slots-size = length-replicate {A = ℕ} 64 0;
    }
  where
    each : (e : Editor) → length (places_of buffers e) ≡ 256
    each Song = length-replicate {A = ℕ} 256 0
    each Picture = length-replicate {A = ℕ} 256 0

-- ---- with IVR bit 0 at 1 the claim holds for every table, without that it fails for one
pub needs_ivr : ((t : Table) → Claims ThatIvr Fair Removal t) × (Claims AnyIvr Fair Removal (holding last_picture) → ⊥)
needs_ivr = (with-ivr, ivr_breaks buffers lent)

-- so it is with reads of what the editor owns and DCSR alone
pub needs_reads : ((t : Table) → Claims Session OwnReads Removal t) × (Claims Session AnyRead Removal (holding first_picture) → ⊥)
needs_reads = (with-reads, read_breaks buffers lent)

-- and with starts that give the table that holds
pub needs_starts : ((t : Table) → Claims Session SameStarts Removal t) × (Claims Session AnyStart Removal (holding all_song) → ⊥)
needs_starts = (with-starts, start_breaks buffers lent)
