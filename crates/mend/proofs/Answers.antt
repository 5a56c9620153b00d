-- What the passes say of the answer, and of what a call gives.
use Rattle.std.proofs.Common.{◌≡◌, ℕ, ◌+◌, ◌-◌, ◌*◌, ◌/◌, ◌<◌, ◌≤◌, Bool, true, false, List, [], ◌∷◌, ◌++◌, length, take, drop, get_or, set, map, refl, sym, ◌∙◌, arith, append_assoc, length-append, zero-add, lt-ltb, le-ltb, eq-eqb, ne_eqb, eqb, ltb, not}
use Rattle.std.proofs.lemmas.List.{append-nil, length-map, length-take-le, drop_more, get_or_at, set_at}
use Rattle.std.proofs.lemmas.Bool.{not-true, not-false}
use Rattle.std.proofs.Math.Seq.{sets, sets-eq}
use mir.Val.{bool_byte}
use Rattle.common.specs.Choice.{if, both}
use Rattle.common.specs.Answers.{done, wrong_length, no_room_for_stop, report_too_small}
use Rattle.mend.specs.Rule.{mended, stop, mended_words, mended_list, mended_buffer, changes_from, changes_of, numbers_of, report_after, mend_answer}
use Rattle.mend.specs.Contract.{Mending}
use Rattle.mend.specs.Passes.{added, refusal, Sees, MendsWords}
use Rattle.mend.proofs.Writing.{numbers_length, then_told}

-- what is stored from the front stands before the rest
from_front : (l xs : List ℕ) → length xs ≤ length l → sets l 0 xs ≡ xs ++ drop (length xs) l
from_front l xs h = rw zero-add at (sets-eq xs l 0 (omega arith))

-- a call that is refused
module _ {buffer report : List ℕ} {used : ℕ} where
  refuses : {a : ℕ} → mend_answer buffer used report ≡ a → eqb a done ≡ false → Mending buffer used report buffer report (refusal a)
  refuses e n = record { answer = sym e; words = rw n; changes = rw n; buffer-after = rw n; report-after = rw n }

  pub more_in_use : length buffer < used → Mending buffer used report buffer report (refusal wrong_length)
  unfolding mend_answer
  more_in_use h = refuses (rw (lt-ltb (length buffer) used h)) refl

-- the added STOP by whether one stands among the words: there is none, or one
one-or-none : {A : Type 0} (t : Bool) (x : A) → length (if t [] (x ∷ [])) ≡ bool_byte (not t)
one-or-none true x = refl
one-or-none false x = refl

lacks : (t : Bool) (room : ℕ) → room < bool_byte (not t) → (t ≡ false) × (room ≡ 0)
lacks true room h = absurd (omega arith)
lacks false room h = (refl, omega arith)

has_room : (t : Bool) (used size : ℕ) → used ≤ size → bool_byte (not t) ≤ size - used → both (not t) (eqb used size) ≡ false
has_room true used size k h = refl
has_room false used size k h = ne_eqb used size (λ e. omega arith)

module _
    (buffer : List ℕ) (used : ℕ) {changes more : ℕ} {stopped : Bool} (k : used ≤ length buffer) (s : Sees (take used buffer) changes stopped)
    (m : more ≡ bool_byte (not stopped)) where
  pub no_room : {report : List ℕ} → length buffer - used < more → Mending buffer used report buffer report (refusal no_room_for_stop)
  unfolding mend_answer
  no_room h =
      let l = lacks stopped (length buffer - used) (rw m at h) in
      refuses (rw (le-ltb (length buffer) used k, ← s.stopping, l.0, eq-eqb used (length buffer) (omega (arith, l.1)))) refl

  list-is : mended_list buffer used ≡ map mended (take used buffer) ++ if stopped [] (stop ∷ [])
  unfolding mended_words
  list-is = rw s.stopping

  list_count : length (mended_list buffer used) ≡ used + more
  list_count = rw (list-is, length-append, length-map, length-take-le used buffer k, one-or-none, m)

  changes_are : changes_of buffer used ≡ changes_from 0 (take used buffer) ++ if stopped [] (added buffer used ∷ [])
  unfolding changes_of
  changes_are = rw s.stopping

  changes-count : length (changes_of buffer used) ≡ changes + more
  changes-count = rw (changes_are, length-append, ← s.changing, one-or-none, m)

  -- one stands there or has room
  module _ (n : more ≤ length buffer - used) where
    by-room : (report : List ℕ) → mend_answer buffer used report ≡ if (ltb (length report / 2) (changes + more)) report_too_small done
    unfolding mend_answer
    by-room report =
        rw (le-ltb (length buffer) used k, ← s.stopping, has_room stopped used (length buffer) k (rw m at n), changes-count)

    pub too_small : {report : List ℕ} → length report / 2 < changes + more → Mending buffer used report buffer report (refusal report_too_small)
    too_small {report} h = refuses (by-room report ∙ rw (lt-ltb (length report / 2) (changes + more) h)) refl

    served :
        {report buffer' report' : List ℕ} → changes + more ≤ length report / 2 → buffer' ≡ mended_list buffer used ++ drop (used + more) buffer →
        report' ≡ sets report 0 (numbers_of (changes_of buffer used)) →
        Mending buffer used report buffer' report' (record { answer = done; used = used + more; changes = changes + more })
    unfolding mended_buffer report_after
    served {report} h b r =
        let cs = changes_of buffer used in
        record {
          answer = sym (by-room report ∙ rw (le-ltb (length report / 2) (changes + more) h));
          words = sym list_count;
          changes = sym changes-count;
          buffer-after = b ∙ rw list_count;
          report-after = r ∙ from_front report (numbers_of cs) (omega (arith, changes-count, numbers_length cs));
        }

    -- the pass that writes is enough where a STOP stands; elsewhere one goes after the words
    module _ {report words told : List ℕ} (h : changes + more ≤ length report / 2) (p : MendsWords (take used buffer) report words told) where
      pub stopped-served :
          {buffer' report' : List ℕ} → not stopped ≡ false → buffer' ≡ words ++ drop used buffer → report' ≡ told →
          Mending buffer used report buffer' report' (record { answer = done; used = used + more; changes = changes + more })
      stopped-served e b r =
          let t : stopped ≡ true = not-false stopped e in
          let z : used + more ≡ used = omega (arith, rw t at m) in
          served h (b ∙ rw (p.mending, list-is, t, append-nil, z)) (r ∙ p.told ∙ rw (changes_are, t, append-nil))

      pub open_served :
          {buffer' report' : List ℕ} → not stopped ≡ true → buffer' ≡ set (words ++ drop used buffer) used stop →
          report' ≡ sets told (changes * 2) (used ∷ (get_or (words ++ drop used buffer) used 0 * 65536 + stop) ∷ []) →
          Mending buffer used report buffer' report' (record { answer = done; used = used + more; changes = changes + more })
      unfolding numbers_of
      open_served e b r =
          let t : stopped ≡ false = not-true stopped e in
          let z : more ≡ 1 = rw t at m in
          let inside : used < length buffer = omega arith in
          let front : List ℕ = map mended (take used buffer) in
          let len : length front ≡ used = length-map (take used buffer) mended ∙ length-take-le used buffer k in
          let rest = drop_more buffer used 0 inside in
          let there : get_or (words ++ drop used buffer) used 0 ≡ get_or buffer used 0 =
          rw (p.mending, rest) (get_or_at front (get_or buffer used 0) _ 0 used len) in
          let put : set (words ++ drop used buffer) used stop ≡ (front ++ stop ∷ []) ++ drop (used + 1) buffer =
          rw (p.mending, rest) (set_at front (get_or buffer used 0) _ stop used len ∙ sym (append_assoc front (stop ∷ []) (drop (used + 1) buffer))) in
          let cs = changes_from 0 (take used buffer) in
          let tell : sets told (changes * 2) (used ∷ (get_or (words ++ drop used buffer) used 0 * 65536 + stop) ∷ []) ≡ sets report 0 (numbers_of (changes_of buffer used)) =
          rw (there, p.told, s.changing, changes_are, t) (then_told report cs (added buffer used ∷ [])) in
          served h (b ∙ put ∙ rw (list-is, t, z)) (r ∙ tell)
