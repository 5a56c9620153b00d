-- Mending what is mended: nothing is left to do.
use Rattle.std.proofs.Common.{◌≡◌, refl, ap, ◌∙◌, Bool, true, false, List, [], ◌∷◌, ◌++◌, map, append-nil, ℕ, suc, ◌/◌, ◌≤◌, arith, eq-eqb, le-ltb, length, take, drop, length-append, take-append-drop, length-take-le}
use Rattle.std.proofs.lemmas.List.{map-append}
use Rattle.std.proofs.Math.Seq.{take-append_seam}
use Rattle.common.specs.Choice.{if, either}
use Rattle.common.specs.Answers.{done}
use Rattle.words.specs.Words.{kind_of, stops, has_stop}
use Rattle.mend.specs.Rule.{stop, mended, mended_words, mended_list, mended_buffer, changes_from, changes_of, numbers_of, report_after, mend_answer}
use Rattle.mend.specs.Contract.{Mending, NothingToMend}
use Rattle.mend.specs.declared.Mended.{Mended}
use Rattle.mend.proofs.Word.{mended-twice, mended-stops, control-mended}
use Rattle.mend.proofs.Measuring.{changes-more}

-- words that mending leaves have no changes
no_changes : (p : ℕ) (ws : List ℕ) → map mended ws ≡ ws → changes_from p ws ≡ []
unfolding changes_from
no_changes p [] e = refl
no_changes p (w ∷ ws) e =
    let same : mended w ≡ w = cc in
    let rest : map mended ws ≡ ws = cc in
    changes-more p w ws ∙ rw (eq-eqb (mended w) w same) (no_changes (suc p) ws rest)

-- where each word in use is its own mending and a STOP is among them
module _
    (buffer : List ℕ) (used : ℕ) (k : used ≤ length buffer) (h : has_stop (take used buffer) ≡ true)
    (m : map mended (take used buffer) ≡ take used buffer) where
  same-list : mended_list buffer used ≡ take used buffer
  unfolding mended_words
  same-list = rw (h, m) (append-nil (take used buffer))

  no_change : changes_of buffer used ≡ []
  unfolding changes_of
  no_change = rw (h, no_changes 0 (take used buffer) m)

  same_count : length (mended_list buffer used) ≡ used
  same_count = rw same-list (length-take-le used buffer k)

  done_answer : (report : List ℕ) → mend_answer buffer used report ≡ done
  unfolding mend_answer
  done_answer report = rw (le-ltb (length buffer) used k, h, no_change, le-ltb (length report / 2) 0 (omega arith))

  nothing : NothingToMend buffer used
  unfolding mended_buffer report_after numbers_of
  nothing =
      record {
        unchanged =
            λ {report} c.
            let d = c.answer ∙ done_answer report in
            record {
              answered = d;
              same_count = c.words ∙ rw (d, same_count);
              no_change = c.changes ∙ rw (d, no_change);
              buffer-stays = c.buffer-after ∙ rw (d, same_count, same-list) (take-append-drop used buffer);
              report-stays = c.report-after ∙ rw (d, no_change);
            };
      }

-- mended words: each is its own mending, and they have a STOP where the words had one
all-mended : (ws : List ℕ) → map mended (map mended ws) ≡ map mended ws
all-mended [] = refl
all-mended (w ∷ ws) = rw (mended-twice w, all-mended ws)

pub all-stops : (ws : List ℕ) → has_stop (map mended ws) ≡ has_stop ws
unfolding has_stop
all-stops [] = refl
all-stops (w ∷ ws) = rw (mended-stops w, all-stops ws)

-- the added STOP is one
stop-last : (ws : List ℕ) → has_stop (ws ++ (stop ∷ [])) ≡ true
unfolding has_stop stops kind_of
stop-last [] = refl
stop-last (w ∷ ws) = rw (stop-last ws) (either_true (stops w))
  where
    either_true : (b : Bool) → either b true ≡ true
    either_true true = refl
    either_true false = refl

module _ (buffer : List ℕ) (used : ℕ) where
  list-stops : has_stop (mended_list buffer used) ≡ true
  unfolding mended_words
  list-stops = by-test (has_stop (take used buffer)) refl
    where
      by-test : (b : Bool) → has_stop (take used buffer) ≡ b → has_stop (map mended (take used buffer) ++ if b [] (stop ∷ [])) ≡ true
      by-test true e = rw (append-nil, all-stops) e
      by-test false e = stop-last (map mended (take used buffer))

  list-mended : map mended (mended_list buffer used) ≡ mended_list buffer used
  unfolding mended_words
  list-mended = rw (map-append, all-mended) (ap (λ l. map mended (take used buffer) ++ l) (by-test (has_stop (take used buffer))))
    where
      by-test : (b : Bool) → map mended (if b [] (stop ∷ [])) ≡ if b [] (stop ∷ [])
      by-test true = refl
      by-test false = rw (control-mended false false true)

pub mended-again :
    {buffer report buffer' report' : List ℕ} {used : ℕ} {r : Mended} → Mending buffer used report buffer' report' r → r.answer ≡ done →
    NothingToMend buffer' r.used
unfolding mended_buffer
mended-again {buffer} {buffer' = buffer'} {used = used} {r} m d =
    let ws = mended_list buffer used in
    let n : r.used ≡ length ws = m.words ∙ rw d in
    let b : buffer' ≡ ws ++ drop (length ws) buffer = m.buffer-after ∙ rw d in
    let t : take r.used buffer' ≡ ws = rw (n, b) (take-append_seam ws (drop (length ws) buffer)) in
    nothing buffer' r.used (rw (n, b, length-append) (omega arith)) (rw t (list-stops buffer used)) (rw t (list-mended buffer used))
