-- 02, L10: what mending promises: its equations for every input, and that mending once more finds nothing to do.
use Rattle.std.specs.Prelude.{◌≡◌, List, ℕ, ◌<◌, length, get_or}
use Rattle.common.specs.Answers.{done, served}
use Rattle.mend.specs.declared.Mended.{Mended}
use Rattle.mend.specs.Rule.{mended_list, mended_buffer, changes_of, report_after, change_at, empty_change, mend_answer}

-- the buffer with so many words in use and the report before, both after, and what is told: the answer; how many words are in use
-- afterwards and how many changes there are, both 0 where it is refused; buffer and report are then as they were
pub record Mending (buffer : List ℕ) (used : ℕ) (report buffer' report' : List ℕ) (r : Mended) : Type 0 where
  pub answer : r.answer ≡ mend_answer buffer used report
  pub words : r.used ≡ served r.answer (length (mended_list buffer used)) 0
  pub changes : r.changes ≡ served r.answer (length (changes_of buffer used)) 0
  pub buffer-after : buffer' ≡ served r.answer (mended_buffer buffer used) buffer
  pub report-after : report' ≡ served r.answer (report_after (changes_of buffer used) report) report

-- a call that found nothing to mend: it is served, reports nothing and changes nothing
pub record Unchanged (buffer : List ℕ) (used : ℕ) (report buffer' report' : List ℕ) (r : Mended) : Type 0 where
  pub answered : r.answer ≡ done
  pub same_count : r.used ≡ used
  pub no_change : r.changes ≡ 0
  pub buffer-stays : buffer' ≡ buffer
  pub report-stays : report' ≡ report

-- whoever mends these words in use, with any report, finds nothing to mend; of the call no more is known than its equations
pub record NothingToMend (buffer : List ℕ) (used : ℕ) : Type 0 where
  pub unchanged :
      {report buffer' report' : List ℕ} {r : Mended} →
      Mending buffer used report buffer' report' r → Unchanged buffer used report buffer' report' r

-- mend: its equations; where it is served, each change can be read from the report, and mending again has nothing to do
pub record Mends (buffer : List ℕ) (used : ℕ) (report buffer' report' : List ℕ) (r : Mended) : Type 0 where
  pub mending : Mending buffer used report buffer' report' r
  pub told : (i : ℕ) → i < r.changes → change_at report' i ≡ get_or (changes_of buffer used) i empty_change
  pub again : r.answer ≡ done → NothingToMend buffer' r.used
