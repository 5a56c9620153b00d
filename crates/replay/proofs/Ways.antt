-- The ways out of replay.
use native.Mathlib.Omega.{arith}
use borrow.Author.Tests.{eq-eqb, ne_eqb}
use mathlib.Core.Path.{◌≡◌, sym, ◌∙◌, ap}
use mathlib.Core.List.{List}
use Prim.Native.Nat.{ℕ}
use lib.Dec.{eqb}
use lib.ListN.{length}
use Rattle.common.specs.Answers.{bad_record}
use Rattle.common.specs.Choice.{if}
use Rattle.editors.specs.declared.Owners.{Owners}
use Rattle.chip.specs.Editors.{lists_of}
use Rattle.take.specs.Record.{first_bad}
use Rattle.take.specs.Open.{open_answer, records_of, Opening}
use Rattle.replay.specs.declared.Lent.{Lent}
use Rattle.replay.specs.declared.Player.{Player}
use Rattle.replay.specs.declared.Replayed.{Replayed}
use Rattle.replay.specs.Replay.{Progress, fresh, replayed}
use Rattle.replay.specs.Contract.{replay_answer, outcome, Replays}
use Rattle.replay.specs.Parts.{progress_of, Begun, Tells}
use Rattle.replay.proofs.ByHand.{as_by_hand}
use Rattle.replay.proofs.Possible.{reset_no_area, replayed_no_area}

-- the answer by the lengths
module _ (ram store file : List ℕ) where
  pub ram_wrong : (length ram ≡ 65536 → ⊥) → replay_answer ram store file ≡ 1
  unfolding replay_answer
  ram_wrong n = simp (ne_eqb (length ram) 65536 n)

  module _ (e : length ram ≡ 65536) where
    pub store_wrong : (length store ≡ 4096 → ⊥) → replay_answer ram store file ≡ 1
    unfolding replay_answer
    store_wrong n = simp (eq-eqb (length ram) 65536 e, ne_eqb (length store) 4096 n)

    pub lengths-right : length store ≡ 4096 → replay_answer ram store file ≡ open_answer file
    unfolding replay_answer
    lengths-right f = simp (eq-eqb (length ram) 65536 e, eq-eqb (length store) 4096 f)

module _ {ram store song picture file : List ℕ} {o : Owners} {p : Player} {r : Replayed} where
  -- refused: nothing is played
  refused :
      {number first : ℕ} → number ≡ replay_answer ram store file → (number ≡ 0 → ⊥) →
      first ≡ if (eqb (replay_answer ram store file) bad_record) (first_bad (records_of file)) 0 →
      Begun p.chip p.lines p.counts → Tells number first p r → Replays ram store song picture o file store song picture r
  unfolding outcome
  refused e n f b t =
      let z = ne_eqb (replay_answer ram store file) 0 (λ d. n (e ∙ d)) in
      record {
        answer = t.answer ∙ e;
        bad = t.bad ∙ f;
        chip = t.chip ∙ b.chip ∙ simp z;
        lines = t.lines ∙ b.number ∙ simp z;
        counts = t.counts ∙ b.none ∙ simp z;
        store-after = simp z;
        song-after = simp z;
        picture-after = simp z;
        no_area = ap lists_of (t.chip ∙ b.chip) ∙ reset_no_area;
        by_hand = λ d. absurd (n (sym t.answer ∙ d));
      }

  -- by a length
  pub by_length :
      replay_answer ram store file ≡ 1 → Begun p.chip p.lines p.counts → Tells 1 0 p r →
      Replays ram store song picture o file store song picture r
  by_length e b t = refused (sym e) (λ z. omega arith) (simp e) b t

  -- by the take
  pub by-take :
      {answer first count offset : ℕ} → replay_answer ram store file ≡ open_answer file → Opening file answer first count offset →
      (answer ≡ 0 → ⊥) → Begun p.chip p.lines p.counts → Tells answer first p r →
      Replays ram store song picture o file store song picture r
  by-take e k n b t = refused (k.answered ∙ sym e) n (rw e k.bad_number) b t

-- served: all is played
pub plays :
    {ram store song picture file store' song' picture' : List ℕ} {o : Owners} {r : Replayed} {answer first count offset : ℕ} (p : Player) (l : Lent) →
    replay_answer ram store file ≡ open_answer file → Opening file answer first count offset → answer ≡ 0 →
    l.ram.now ≡ ram → store' ≡ l.store.now → song' ≡ l.song.now → picture' ≡ l.picture.now →
    progress_of p l ≡ replayed o (fresh ram store song picture) (records_of file) → Tells 0 0 p r →
    Replays ram store song picture o file store' song' picture' r
unfolding outcome
plays {ram} {store} {song} {picture} {file} {o = o} p l e k z same-ram same-store same-song same-picture s t =
    let d : replay_answer ram store file ≡ 0 = e ∙ sym k.answered ∙ z in
    record {
      answer = t.answer ∙ sym d;
      bad = t.bad ∙ simp d;
      chip = t.chip ∙ simp d (ap (λ (q : Progress). q.world.chip) s);
      lines = t.lines ∙ simp d (ap (λ (q : Progress). q.lines) s);
      counts = t.counts ∙ simp d (ap (λ (q : Progress). q.counts) s);
      store-after = same-store ∙ simp d (ap (λ (q : Progress). q.world.lent.store) s);
      song-after = same-song ∙ simp d (ap (λ (q : Progress). q.world.lent.song) s);
      picture-after = same-picture ∙ simp d (ap (λ (q : Progress). q.world.lent.picture) s);
      no_area = ap lists_of (t.chip ∙ ap (λ (q : Progress). q.world.chip) s) ∙ replayed_no_area ram store song picture o (records_of file);
      by_hand = λ y log w h. as_by_hand (rw (t.chip, t.lines, t.counts, same-store, same-song, same-picture) (rw same-ram at s)) h;
    }
