-- The list as a part of RAM: its length is in RAM's, and the part of that length is the list.
use mathlib.Core.Path.{◌≡◌}
use mathlib.Core.List.{List}
use Prim.Native.Nat.{ℕ, ◌*◌, ◌≤◌}
use native.Mathlib.Omega.{arith}
use lib.ListN.{length, take, drop, take-append-drop, length-take}
use lib.Seq.{take-append_seam}
use Rattle.forecast.specs.Rule.{words_of, even, list_of}
use Rattle.forecast.proofs.Walk.{words_inside}

-- what was taken has the length to take
take-taken : {A : Type 0} (n : ℕ) (l : List A) → take (length (take n l)) l ≡ take n l
take-taken n l = rw (take-append-drop n l) at (take-append_seam (take n l) (drop n l))

module _ (ram : List ℕ) (start : ℕ) where
  pub list_inside : start ≤ 65535 → length (list_of ram start) ≤ 65536
  unfolding list_of
  list_inside h =
      omega
      (arith, length-take (length (words_of ram (even start)) * 2) (drop (even start) ram), words_inside ram (even start) (omega arith))

  pub list-part : take (length (list_of ram start)) (drop (even start) ram) ≡ list_of ram start
  unfolding list_of
  list-part = take-taken (length (words_of ram (even start)) * 2) (drop (even start) ram)
