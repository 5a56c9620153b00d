-- The host's removals have to get the same answers. The picture editor's channel has a list in use in one of two runs alone, so that there it
-- is not removed and the next list lands behind it; the song editor's channel, which is set to where the first list was, meets a STOP
-- there and no STOP in the other run.
use mathlib.Core.Path.{◌≡◌, refl, ap, sym, ◌∙◌}
use mathlib.Core.Bool.{true, false}
use mathlib.Core.List.{List, [], ◌∷◌}
use mathlib.Core.Logic.{inr, ⊎_elim}
use Prim.Native.Nat.{ℕ, zero, suc, ◌+◌, ◌*◌, ◌<◌}
use native.Mathlib.Omega.{arith}
use lib.ListN.{length, set, get_or}
use lib.Seq.{sets, length-sets, get_or-set_same}
use Rattle.common.proofs.Order.{either_side}
use Rattle.common.proofs.Tests.{clash}
use Rattle.words.specs.Words.{kind_of}
use Rattle.editors.specs.declared.Editor.TheVariants.{Song, Picture}
use Rattle.editors.specs.declared.Owners.{Owners}
use Rattle.editors.specs.declared.Table.{Table}
use Rattle.editors.specs.Table.{holding}
use Rattle.lists.specs.declared.Area.{Area}
use Rattle.lists.specs.Area.{proper, standing, has, area_of, area_answer}
use Rattle.lists.specs.Room.{start_of, end_of, place_of, place_at, Fits}
use Rattle.lists.specs.Place.{askable, with_list, Places, placed}
use Rattle.lists.specs.Remove.{taken, remove_answer}
use Rattle.lists.specs.InUse.{uses}
use Rattle.lists.proofs.Bits.{none-on, more-others}
use Rattle.lists.proofs.Stored.{bytes-before, bytes_in}
use Rattle.crtc.specs.Line.{raster_due, split_due, captured, frame_ends, frame_start, next_line, line_of}
use Rattle.sound.specs.declared.Channel.{Channel as Voice}
use Rattle.sound.specs.declared.Sound.{Sound}
use Rattle.sound.specs.Channels.{word_at, pause_counted, active, fetched, controlled, turn_of}
use Rattle.sound.specs.Line.{off_channel, sound_after}
use Rattle.chip.specs.Editors.{no_entries}
use Rattle.chip.specs.Reset.{reset_sound}
use Rattle.chip.specs.Step.{counters_stepped, stepped}
use Rattle.placing.specs.InUse.{in_use_of}
use Rattle.draw.specs.Drawing.{draw_answer}
use Rattle.registers.specs.Address.{register_at, channel_at}
use Rattle.registers.specs.Registers.{dcsr}
use Rattle.contents.specs.Widths.{Bytes}
use Rattle.page.specs.Page.{page_answer, read_answer, write_answer, page_written, places_after}
use Rattle.runs.specs.World.{World, Buffers, Loan, with_room}
use Rattle.runs.specs.Call.{Call, read, write, line, start, area, place, remove, lend, Reply, Typed, reply_to, world_after}
use Rattle.runs.specs.Pair.{ended, first, both as same}
use Rattle.runs.proofs.Runs.{Every}
use Rattle.runs.proofs.Opens.{differ, mapped_chip}
use Rattle.runs.proofs.Calls.{placed-world}
use Rattle.noninterference.specs.TwoRuns.{reads, writes, Removal, Fair, Session}
use Rattle.noninterference.proofs.Exist.{theirs_fair}
use Rattle.noninterference.proofs.Marks.{NoCall}
use Rattle.noninterference.proofs.Needed.{Claims, claimed, Lent, two_runs, shows, other-bytes, held, session, last_picture, off, asks, asks-dcsr, buffers, lent}

-- an area of two words, from 0 on, and two lists of one word: a STOP, and a word that does nothing
abbrev narrow : Area
narrow = area_of 0 4

abbrev stopping : List ℕ
stopping = 0x20 ∷ 0x40 ∷ []

abbrev idling : List ℕ
idling = 0 ∷ 0x40 ∷ []

-- a world of the session with this area, RAM, places of lists and sound
abbrev roomy : Buffers → Area → List ℕ → List ℕ → Sound → World
roomy l a ram slots s =
    record {
      chip = mapped_chip s 1 (record { table = holding last_picture; song = no_entries; picture = no_entries; lists = a });
      lent = with_room l ram slots;
    }

-- channels 0 and 2 enabled or not, at address 0
abbrev on : Voice
on = record { enabled = true; interrupt = false; address = 0; prescale = 0; pause = 0; count = 0; counter = 0; mark = 0; muted = false }

abbrev sounds : Voice → Voice → Sound
sounds d e = record { channels = d ∷ off_channel ∷ e ∷ []; psg = reset_sound.psg }

-- the area with the first list in it
abbrev one : Area
one = with_list narrow 0

-- ---- the area is given
gives : (l : Buffers) → world_after (held l last_picture) (area 0 4) ≡ roomy l narrow l.ram l.slots reset_sound
unfolding area_answer standing proper
gives l = refl

-- ---- a first list goes to address 0, under handle 0
no_list : {A : Type 0} (k : ℕ) → has narrow k ≡ true → A
no_list k h = absurd (clash h (none-on k))

first-placed :
    (slots ram : List ℕ) (lo hi : ℕ) → length ram ≡ 65536 →
    Places narrow slots ram (lo ∷ hi ∷ []) (set slots 0 0) (sets ram 0 (lo ∷ hi ∷ []))
    (record { area = one; answer = 0; address = 0; handle = 0 })
unfolding askable standing proper place_of
first-placed slots ram lo hi long =
    placed {handle = 0} {a = 0} long refl (record { below = omega arith; free = refl; lowest = λ k h. absurd (omega arith) })
    (record {
      fits = record { even = refl; above = omega arith; below = omega arith; between = λ k h some. no_list k some };
      lowest = λ b f. omega arith;
    })

-- ---- a second one beside it to address 2, under handle 1
just_first : (k : ℕ) → has one k ≡ true → k ≡ 0
just_first zero h = refl
just_first (suc k) h = absurd (clash (sym (more-others 0 0 refl (suc k) (λ e. omega arith)) ∙ h) (none-on (suc k)))

first-has : (k : ℕ) → k < 1 → has one k ≡ true
first-has zero h = refl
first-has (suc k) h = absurd (omega arith)

not_below : (slots : List ℕ) → place_at slots 0 ≡ 0 → (b : ℕ) → Fits one slots 2 b → b < 2 → ⊥
unfolding start_of end_of
not_below slots here b f low = ⊎_elim (λ w. omega (arith, f.even)) (λ w. omega (arith, f.even)) (rw here at (f.between 0 (omega arith) refl))

second-placed :
    (slots ram : List ℕ) → place_at slots 0 ≡ 0 → length ram ≡ 65536 →
    Places one slots ram idling (set slots 1 32769) (sets ram 2 idling)
    (record { area = with_list one 1; answer = 0; address = 2; handle = 1 })
unfolding askable standing proper start_of end_of place_of
second-placed slots ram here long =
    placed {handle = 1} {a = 2} long refl (record { below = omega arith; free = refl; lowest = first-has })
    (record {
      fits =
          record {
            even = refl;
            above = omega arith;
            below = omega arith;
            between = λ k h some. rw (just_first k some, here) (inr (omega arith));
          };
      lowest = λ b f. either_side b 2 (λ low. absurd (not_below slots here b f low)) (λ g. g);
    })

-- ---- DCSR writes and lines, on a world of the session
module _ (l : Buffers) (a : Area) (ram slots : List ℕ) (store : length l.store ≡ 4096) where
  enabled-last : world_after (roomy l a ram slots reset_sound) (write Picture 0x6c0f 4) ≡ roomy l a ram slots (sounds off_channel on)
  unfolding write_answer page_answer register_at channel_at page_written places_after
  enabled-last = rw store refl

  enabled-first : (d : Voice) → world_after (roomy l a ram slots (sounds off_channel d)) (write Song 0x6c0f 1) ≡ roomy l a ram slots (sounds on d)
  unfolding write_answer page_answer register_at channel_at page_written places_after
  enabled-first d = rw store refl

  module _ (long : length ram ≡ 65536) where
    stopped : word_at ram 0 ≡ 0x4020 → reply_to (world_after (roomy l a ram slots (sounds on on)) (line off 640)) asks ≡ shows 0
    unfolding draw_answer stepped counters_stepped sound_after turn_of pause_counted active fetched controlled kind_of line_of raster_due split_due captured frame_ends frame_start next_line page_answer read_answer register_at channel_at dcsr
    stopped k = rw (long, store, k) (rw store refl)

    not_stopped : word_at ram 0 ≡ 0x4000 → reply_to (world_after (roomy l a ram slots (sounds on off_channel)) (line off 640)) asks ≡ shows 1
    unfolding draw_answer stepped counters_stepped sound_after turn_of pause_counted active fetched controlled kind_of line_of raster_due split_due captured frame_ends frame_start next_line page_answer read_answer register_at channel_at dcsr
    not_stopped k = rw (long, store, k) (rw store refl)

-- ---- the first list is removed where no channel has it in use, and not where one has
module _ (l : Buffers) (ram slots : List ℕ) (here : place_at slots 0 ≡ 0) where
  freed : world_after (roomy l one ram slots reset_sound) (remove 0) ≡ roomy l narrow ram slots reset_sound
  unfolding remove_answer standing proper taken in_use_of
  freed = refl

  in_use : world_after (roomy l one ram slots (sounds off_channel on)) (remove 0) ≡ roomy l one ram slots (sounds off_channel on)
  unfolding remove_answer standing proper taken in_use_of uses start_of end_of
  in_use = rw here refl

-- ---- the word at address 0
word-here : (ram : List ℕ) (lo hi : ℕ) → length ram ≡ 65536 → word_at (sets ram 0 (lo ∷ hi ∷ [])) 0 ≡ hi * 256 + lo
unfolding word_at
word-here ram lo hi long =
    let list : List ℕ = lo ∷ hi ∷ [] in
    rw (bytes_in ram 0 list 1 (omega arith) (omega arith), bytes_in ram 0 list 0 (omega arith) (omega arith)) refl

word-beside : (ram : List ℕ) → word_at (sets ram 2 idling) 0 ≡ word_at ram 0
unfolding word_at
word-beside ram = rw (bytes-before ram 2 idling 1 (omega arith), bytes-before ram 2 idling 0 (omega arith)) refl

-- ---- the two runs

-- what the song editor reads of DCSR in the end: after its channel is enabled and a line has passed; with the second list placed before that;
-- with the first one removed before that; with the picture editor's channel enabled first of all
abbrev read-then : World → Reply
read-then w = reply_to (world_after (world_after w (write Song 0x6c0f 1)) (line off 640)) asks

abbrev place-then : World → Reply
place-then w = read-then (world_after w (place idling))

abbrev remove-then : World → Reply
remove-then w = place-then (world_after w (remove 0))

abbrev enable-then : World → Reply
enable-then w = remove-then (world_after w (write Picture 0x6c0f 4))

module _ (l : Buffers) (s : Lent l) where
  abbrev ram₁ : List ℕ
  ram₁ = sets l.ram 0 stopping

  abbrev slots₁ : List ℕ
  slots₁ = set l.slots 0 0

  abbrev ram₂ : List ℕ
  ram₂ = sets ram₁ 2 idling

  abbrev ram₃ : List ℕ
  ram₃ = sets ram₁ 0 idling

  here : place_at slots₁ 0 ≡ 0
  here = get_or-set_same l.slots 0 0 0 (omega (arith, s.slots-size))

  long₁ : length ram₁ ≡ 65536
  long₁ = length-sets l.ram 0 stopping ∙ s.ram-size

  long₂ : length ram₂ ≡ 65536
  long₂ = length-sets ram₁ 2 idling ∙ long₁

  long₃ : length ram₃ ≡ 65536
  long₃ = length-sets ram₁ 0 idling ∙ long₁

  begins : world_after (world_after (held l last_picture) (area 0 4)) (place stopping) ≡ roomy l one ram₁ slots₁ reset_sound
  begins =
      ap (λ w. world_after w (place stopping)) (gives l)
      ∙ placed-world (roomy l narrow l.ram l.slots reset_sound) stopping (first-placed l.slots l.ram 0x20 0x40 s.ram-size)

  -- the list stays, and the next one lands behind it
  reads-stop : enable-then (world_after (world_after (held l last_picture) (area 0 4)) (place stopping)) ≡ shows 0
  reads-stop =
      ap enable-then begins
      ∙ ap remove-then (enabled-last l one ram₁ slots₁ s.store-size)
      ∙ ap place-then (in_use l ram₁ slots₁ here)
      ∙ ap read-then (placed-world (roomy l one ram₁ slots₁ (sounds off_channel on)) idling (second-placed slots₁ ram₁ here long₁))
      ∙ ap (λ w. reply_to (world_after w (line off 640)) asks)
      (enabled-first l (with_list one 1) ram₂ (set slots₁ 1 32769) s.store-size on)
      ∙ stopped l (with_list one 1) ram₂ (set slots₁ 1 32769) s.store-size long₂
      (word-beside ram₁ ∙ word-here l.ram 0x20 0x40 s.ram-size)

  -- the list goes, and the next one lands in its place
  reads_on : remove-then (world_after (world_after (held l last_picture) (area 0 4)) (place stopping)) ≡ shows 1
  reads_on =
      ap remove-then begins
      ∙ ap place-then (freed l ram₁ slots₁ here)
      ∙ ap read-then (placed-world (roomy l narrow ram₁ slots₁ reset_sound) idling (first-placed slots₁ ram₁ 0 0x40 long₁))
      ∙ ap (λ w. reply_to (world_after w (line off 640)) asks)
      (enabled-first l one ram₃ (set slots₁ 0 0) s.store-size off_channel)
      ∙ not_stopped l one ram₃ (set slots₁ 0 0) s.store-size long₃ (word-here ram₁ 0 0x40 long₁)

-- ---- their calls are fair
two_bytes : (lo hi : ℕ) → lo < 256 → hi < 256 → Bytes (lo ∷ hi ∷ [])
two_bytes lo hi h k = record { each = each }
  where
    each : (i : ℕ) → get_or (lo ∷ hi ∷ []) i 0 < 256
    each zero = h
    each (suc zero) = k
    each (suc (suc i)) = omega arith

module _ (t : Table) where
  hosts : (c : Call) → Typed c → ((a bus : ℕ) → c ≡ read Song a bus → ⊥) → ((o : Owners) → c ≡ start o → ⊥) → ((m : Loan) → c ≡ lend m → ⊥) → Fair t Song c
  hosts c typed f g h =
      record {
        typed = typed;
        reads = λ a bus q. absurd (f a bus q);
        starts = λ o q. absurd (g o q);
        hands = record { lends = λ m q. absurd (h m q) };
      }

  gives-fair : Fair t Song (area 0 4)
  gives-fair = hosts (area 0 4) (omega arith, omega arith) (λ a bus q. differ cc) (λ o q. differ cc) (λ m q. differ cc)

  place-fair : (lo hi : ℕ) → lo < 256 → hi < 256 → Fair t Song (place (lo ∷ hi ∷ []))
  place-fair lo hi h k = hosts _ (two_bytes lo hi h k) (λ a bus q. differ cc) (λ o q. differ cc) (λ m q. differ cc)

  remove-fair : Fair t Song (remove 0)
  remove-fair = hosts (remove 0) (omega arith) (λ a bus q. differ cc) (λ o q. differ cc) (λ m q. differ cc)

  write-fair : Fair t Song (write Song 0x6c0f 1)
  write-fair = hosts (write Song 0x6c0f 1) (omega arith, omega arith) (λ a bus q. differ cc) (λ o q. differ cc) (λ m q. differ cc)

  line-fair : Fair t Song (line off 640)
  line-fair = hosts (line off 640) tt (λ a bus q. differ cc) (λ o q. differ cc) (λ m q. differ cc)

asks-fair : Fair (holding last_picture) Song asks
asks-fair =
    record {
      typed = (omega arith, omega arith);
      reads = asks-dcsr;
      starts = λ o q. differ cc;
      hands = record { lends = λ m q. differ cc };
    }

abbrev last-calls : List Call
last-calls = remove 0 ∷ place idling ∷ write Song 0x6c0f 1 ∷ line off 640 ∷ asks ∷ []

last-fair : Every (Fair (holding last_picture) Song) last-calls
last-fair =
    let t = holding last_picture in
    (remove-fair t, (place-fair t 0 0x40 (omega arith) (omega arith), (write-fair t, (line-fair t, (asks-fair, tt)))))

-- nothing is given of the removals' answers
removals_break : (l : Buffers) → Lent l → Claims Session Fair NoCall (holding last_picture) → ⊥
removals_break l s claim =
    let t = holding last_picture in
    let lists = place-fair t 0x20 0x40 (omega arith) (omega arith) in
    let theirs = theirs_fair t Song (write Picture 0x6c0f 4) (writes 0x6c0f 4) (omega arith, omega arith) in
    let u =
    two_runs claim (λ c f. f.hands) (held l last_picture) (area 0 4 ∷ place stopping ∷ write Picture 0x6c0f 4 ∷ last-calls)
    (area 0 4 ∷ place stopping ∷ last-calls) (session l last_picture s) s.places (gives-fair t, (lists, (theirs, last-fair)))
    (gives-fair t, (lists, last-fair))
    (same refl (same refl (first (writes 0x6c0f 4) (same refl (same refl (same refl (same refl (same refl ended))))))))
    (λ x. absurd x, (λ x. absurd x, (λ x. absurd x, (λ x. absurd x, (λ x. absurd x, (λ x. absurd x, (λ x. absurd x, tt))))))) in
    other-bytes 0 1 (λ q. omega arith) (sym (reads-stop l s) ∙ u.replies.1.1.1.1.1.1.0 (reads 0x6c0f 0) ∙ reads_on l s)

-- with that the claim holds for every table, without it it fails for one
pub needs_removals : ((t : Table) → Claims Session Fair Removal t) × (Claims Session Fair NoCall (holding last_picture) → ⊥)
needs_removals = (claimed, removals_break buffers lent)
