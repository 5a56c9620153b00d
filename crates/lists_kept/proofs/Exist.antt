-- None of it is empty. A session comes of any calls that lend nothing. In one of them a list with a STOP is placed and a channel begins to
-- play it; in another such a list is placed and removed again while that channel plays elsewhere.
use mathlib.Core.Path.{◌≡◌, refl, ap, ◌∙◌, subst}
use mathlib.Core.Bool.{true, false}
use mathlib.Core.List.{List, [], ◌∷◌}
use Prim.Native.Nat.{ℕ, zero, suc, ◌+◌, ◌%◌, ◌^◌, ◌<◌}
use native.Mathlib.Omega.{arith}
use lib.ListN.{length, set, get_or, replicate, length-replicate}
use lib.Seq.{sets, get_or-set_same}
use Rattle.words.specs.Words.{stops, has_stop, kind_of}
use Rattle.common.specs.Answers.{done}
use Rattle.editors.specs.declared.Editor.{Editor}
use Rattle.editors.specs.declared.Editor.TheVariants.{Song, Picture}
use Rattle.lists.specs.declared.Area.{Area}
use Rattle.lists.specs.Area.{proper, standing, area_of, area_answer}
use Rattle.lists.specs.Room.{start_of, end_of, place_of, place_at}
use Rattle.lists.specs.Place.{askable, with_list, Places, placed}
use Rattle.lists.specs.Remove.{taken, remove_answer}
use Rattle.lists.specs.InUse.{uses}
use Rattle.placing.specs.InUse.{in_use_of}
use Rattle.lists.proofs.Bits.{none-on}
use Rattle.lists.proofs.Stored.{bytes_in}
use Rattle.common.proofs.Tests.{clash}
use Rattle.sound.specs.declared.Access.TheVariants.{Off}
use Rattle.sound.specs.declared.Sound.{Sound}
use Rattle.sound.specs.Channels.{word_at}
use Rattle.sound.specs.Line.{off_channel}
use Rattle.chip.specs.Editors.{no_entries}
use Rattle.chip.specs.Reset.{reset_sound}
use Rattle.editors.specs.Table.{no_table}
use Rattle.registers.specs.Address.{register_at, channel_at}
use Rattle.page.specs.Page.{page_answer, write_answer, page_written, places_after}
use Rattle.runs.specs.World.{World, Buffers, places_of, with_room}
use Rattle.runs.specs.Call.{Call, bc, write, line, area, place, remove, answer_to, world_after}
use Rattle.runs.specs.Run.{Made, Run, Each, made_over, world_over}
use Rattle.runs.proofs.Calls.{AllPlaces, placed-world}
use Rattle.runs.proofs.Runs.{Every, every, each-made, run-possible}
use Rattle.runs.proofs.Runs as Lending
use Rattle.runs.proofs.Opens.{differ, Good, opens_then, opens_good, mapped_chip, fresh, mapped, opened, good_reached}
use Rattle.forecast.specs.Rule.{words_of}
use Rattle.forecast.specs.Demand.{channel, steps_of, did_over, any_stop}
use Rattle.forecast.proofs.Spares.{effect}
use Rattle.forecast.proofs.Words.{words-stop}
use Rattle.lists_kept.specs.Session.{HandsRoom, Session}
use Rattle.lists_kept.specs.InUse.{Begins, Spares, LinesAlone}

good_hands : (c : Call) → Good c → HandsRoom c
good_hands c g = record { ram = λ l q. g.lends_none _ q; slots = λ l q. g.lends_none _ q }

-- any calls that lend nothing, on any buffers with all their places
pub sessions_exist :
    (l : Buffers) (cs : List Call) → AllPlaces (fresh l) → length l.slots ≡ 64 → Every Good cs →
    Session (fresh l) (made_over (fresh l) cs) (world_over (fresh l) cs)
sessions_exist l cs places slots good =
    record {
      reached = good_reached l cs places good;
      hands = each-made HandsRoom cs (fresh l) (every Good HandsRoom good_hands cs good);
      places = slots;
    }

-- ---- an area of one word, at 0 or at 2, with a STOP in it, and channel 0 enabled at address 0
abbrev narrow : ℕ → Area
narrow a = area_of a (a + 2)

abbrev full : ℕ → Area
full a = with_list (narrow a) 0

abbrev stopping : List ℕ
stopping = 0x20 ∷ 0x40 ∷ []

abbrev playing : Sound
playing =
    record {
      channels =
          record { enabled = true; interrupt = false; address = 0; prescale = 0; pause = 0; count = 0; counter = 0; mark = 0; muted = false }
          ∷ off_channel ∷ off_channel ∷ [];
      psg = reset_sound.psg;
    }

-- the calls that come to it
abbrev placing : ℕ → List Call
placing a = area a (a + 2) ∷ place stopping ∷ write Song 0x6c0f 1 ∷ []

placing_good : (a : ℕ) → a + 2 < 2 ^ 32 → Every Good (placing a)
placing_good a h = (
  record { typed = (omega arith, h); lends_none = λ l q. differ cc },
  (
    record { typed = record { each = bytes }; lends_none = λ l q. differ cc },
    (record { typed = (omega arith, omega arith); lends_none = λ l q. differ cc }, tt),
  ),
)
  where
    bytes : (i : ℕ) → get_or stopping i 0 < 256
    bytes zero = omega arith
    bytes (suc zero) = omega arith
    bytes (suc (suc i)) = omega arith

abbrev roomy : Buffers → Area → List ℕ → List ℕ → Sound → World
roomy l a ram slots s =
    record {
      chip = mapped_chip s 1 (record { table = no_table; song = no_entries; picture = no_entries; lists = a });
      lent = with_room l ram slots;
    }

-- buffers of the right lengths
pub record Whole (l : Buffers) : Type 0 where
  pub ram-size : length l.ram ≡ 65536
  pub store-size : length l.store ≡ 4096
  pub slots-size : length l.slots ≡ 64
  pub places : AllPlaces (fresh l)

module _ (a : ℕ) (even : a % 2 ≡ 0) (bounds : proper a (a + 2) ≡ true) (ask : askable (narrow a) 2 ≡ true) where
  one_placed :
      (slots ram : List ℕ) → length ram ≡ 65536 →
      Places (narrow a) slots ram stopping (set slots 0 (place_of a 2)) (sets ram a stopping)
      (record { area = full a; answer = 0; address = a; handle = 0 })
  one_placed slots ram long =
      placed {handle = 0} {a = a} long ask (record { below = omega arith; free = refl; lowest = λ k h. absurd (omega arith) })
      (record {
        fits =
            record {
              even = even;
              above = omega arith;
              below = omega arith;
              between = λ k h some. absurd (clash some (none-on k));
            };
        lowest = λ b f. omega (arith, f.above);
      })

  module _ (l : Buffers) (whole : Whole l) where
    gives : world_after (mapped l) (area a (a + 2)) ≡ roomy l (narrow a) l.ram l.slots reset_sound
    unfolding area_answer standing proper
    gives = rw bounds refl

    enables :
        (ram slots : List ℕ) →
        world_after (roomy l (full a) ram slots reset_sound) (write Song 0x6c0f 1) ≡ roomy l (full a) ram slots playing
    unfolding write_answer page_answer register_at channel_at page_written places_after
    enables ram slots = rw whole.store-size refl

    abbrev placed_at : World
    placed_at = roomy l (full a) (sets l.ram a stopping) (set l.slots 0 (place_of a 2)) playing

    comes : world_over (fresh l) (opens_then (placing a)) ≡ placed_at
    comes =
        opened l (placing a)
        ∙ ap (λ w. world_after (world_after w (place stopping)) (write Song 0x6c0f 1)) gives
        ∙ ap (λ w. world_after w (write Song 0x6c0f 1))
        (placed-world (roomy l (narrow a) l.ram l.slots reset_sound) stopping (one_placed l.slots l.ram whole.ram-size))
        ∙ enables (sets l.ram a stopping) (set l.slots 0 (place_of a 2))

    session : a + 2 < 2 ^ 32 → Session (fresh l) (made_over (fresh l) (opens_then (placing a))) placed_at
    session small =
        subst (Session (fresh l) (made_over (fresh l) (opens_then (placing a)))) comes
        (sessions_exist l (opens_then (placing a)) whole.places whole.slots-size (opens_good (placing a) (placing_good a small)))

    place_here : place_at (set l.slots 0 (place_of a 2)) 0 ≡ place_of a 2
    place_here = get_or-set_same l.slots 0 (place_of a 2) 0 (omega (arith, whole.slots-size))

-- ---- channel 0 begins to play a list that is placed at 0
pub record BeginsIn (l : Buffers) : Type 0 where
  pub world : World
  pub log : List Made
  pub in_session : Session (fresh l) log world
  pub begins : Begins 0 0 world
  pub all-places : AllPlaces world

stop-there : (ram : List ℕ) → length ram ≡ 65536 → word_at (sets ram 0 stopping) 0 ≡ 0x4020
unfolding word_at
stop-there ram long =
    rw (bytes_in ram 0 stopping 1 (omega arith) (omega arith), bytes_in ram 0 stopping 0 (omega arith) (omega arith)) refl

one_word : (ram : List ℕ) → word_at ram 0 ≡ 0x4020 → words_of ram 0 ≡ 0x4020 ∷ []
unfolding stops kind_of
one_word ram i = words-stop ram 0 (omega arith) (rw i refl) ∙ rw i refl

pub begins_exist : (l : Buffers) → Whole l → BeginsIn l
unfolding proper askable standing start_of end_of place_of has_stop stops kind_of
begins_exist l whole =
    let here = place_here 0 refl refl refl l whole in
    let ram = sets l.ram 0 stopping in
    let words = one_word ram (stop-there l.ram whole.ram-size) in
    record {
      world = placed_at 0 refl refl refl l whole;
      log = made_over (fresh l) (opens_then (placing 0));
      in_session = session 0 refl refl refl l whole (omega arith);
      begins =
          record {
            has-list = record { handle = omega arith; taken = refl };
            enabled = refl;
            address = rw here refl;
            counter = refl;
            stop = rw (here, words) refl;
            within = rw (here, words) (omega arith);
          };
      all-places = whole.places;
    }

-- ---- and has not in use one that is placed at 2, so that it can be removed
pub record FreesIn (l : Buffers) : Type 0 where
  pub world : World
  pub log : List Made
  pub in_session : Session (fresh l) log world
  pub enabled : (channel world.chip 0).enabled ≡ true
  pub removable : answer_to world (remove 0) ≡ done
  pub all-places : AllPlaces world

pub frees_exist : (l : Buffers) → Whole l → FreesIn l
unfolding proper askable standing start_of end_of place_of remove_answer taken in_use_of uses
frees_exist l whole =
    record {
      world = placed_at 2 refl refl refl l whole;
      log = made_over (fresh l) (opens_then (placing 2));
      in_session = session 2 refl refl refl l whole (omega arith);
      enabled = refl;
      removable = rw (place_here 2 refl refl refl l whole) refl;
      all-places = whole.places;
    }

-- ---- there are such buffers
pub whole-buffers : Whole (record { ram = replicate 65536 0; store = replicate 4096 0; song = replicate 256 0; picture = replicate 256 0; slots = replicate 64 0 })
whole-buffers =
    record {
      ram-size = length-replicate {A = ℕ} 65536 0;
      store-size = length-replicate {A = ℕ} 4096 0;
      slots-size = length-replicate {A = ℕ} 64 0;
      places = each;
    }
  where
    each : (e : Editor) → length (places_of (record { ram = replicate 65536 0; store = replicate 4096 0; song = replicate 256 0; picture = replicate 256 0; slots = replicate 64 0 }) e) ≡ 256
    each Song = length-replicate {A = ℕ} 256 0
    each Picture = length-replicate {A = ℕ} 256 0

-- ---- runs of any number of calls follow: port writes, which spare every channel and execute no STOP
byte_spares : (n : ℕ) → n < 3 → (m : ℕ) (w : World) → Each (Spares n) (made_over w (replicate m (bc 0)))
byte_spares n h zero w = tt
byte_spares n h (suc m) w = (
  record { hands = record { ram = λ l q. differ cc; slots = λ l q. differ cc }; alone = λ z. (effect n h w (bc 0)).alone tt },
  byte_spares n h m (world_after w (bc 0)),
)

byte-stops : (n m : ℕ) (w : World) → any_stop (did_over n (steps_of (made_over w (replicate m (bc 0))))) ≡ false
unfolding any_stop
byte-stops n zero w = refl
byte-stops n (suc m) w = byte-stops n m (world_after w (bc 0))

-- and line steps alone
abbrev steps_line : Call
steps_line = line (record { first = Off; second = Off; third = Off }) 640

lines-alone : (m : ℕ) (w : World) → Each (λ e. LinesAlone e.asks) (made_over w (replicate m steps_line))
lines-alone zero w = tt
lines-alone (suc m) w = (tt, lines-alone m (world_after w steps_line))

same_whole : (c : Call) → Lending.Whole c → (m : ℕ) → Every Lending.Whole (replicate m c)
same_whole c h zero = tt
same_whole c h (suc m) = (h, same_whole c h m)

-- so what the claims ask of a run is met by runs of every length
pub record Follows (w : World) (m : ℕ) : Type 0 where
  pub bytes_run : Run w (made_over w (replicate m (bc 0))) (world_over w (replicate m (bc 0)))
  pub spared : (n : ℕ) → n < 3 → Each (Spares n) (made_over w (replicate m (bc 0)))
  pub not_stopped : (n : ℕ) → any_stop (did_over n (steps_of (made_over w (replicate m (bc 0))))) ≡ false
  pub lines-run : Run w (made_over w (replicate m steps_line)) (world_over w (replicate m steps_line))
  pub alone : Each (λ e. LinesAlone e.asks) (made_over w (replicate m steps_line))

pub follows : (w : World) → AllPlaces w → (m : ℕ) → Follows w m
follows w places m =
    record {
      bytes_run = run-possible (replicate m (bc 0)) w places (same_whole (bc 0) tt m);
      spared = λ n h. byte_spares n h m w;
      not_stopped = λ n. byte-stops n m w;
      lines-run = run-possible (replicate m steps_line) w places (same_whole steps_line tt m);
      alone = lines-alone m w;
    }
