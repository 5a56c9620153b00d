-- The lines of output.
use Rattle.std.specs.Prelude.{List, [], ◌∷◌, ◌++◌, ℕ, fold}
use Rattle.sound.specs.declared.Report.{Report}
use Rattle.sound.specs.Line.{did_of}
use Rattle.text.specs.Text.{numeral, spaced_numeral, line_end, did_text}

-- an answer, and other numbers behind it
abbrev pub answer_line : ℕ → List ℕ → List ℕ
answer_line answer others = fold (λ text n. text ++ spaced_numeral n) (numeral answer) others ++ line_end

-- one number
abbrev pub one_line : ℕ → List ℕ
one_line a = numeral a ++ line_end

-- two numbers
abbrev pub two_line : ℕ → ℕ → List ℕ
two_line a b = numeral a ++ spaced_numeral b ++ line_end

-- three numbers
abbrev pub three_line : ℕ → ℕ → ℕ → List ℕ
three_line a b c = numeral a ++ spaced_numeral b ++ spaced_numeral c ++ line_end

-- a line's report: the cycles, and what each of the three channels did
abbrev pub report_text : Report → List ℕ
report_text r =
    spaced_numeral r.cycles ++ did_text (did_of r.entries 0) ++ did_text (did_of r.entries 1) ++ did_text (did_of r.entries 2)

-- a line that was stepped: the answer and the report
abbrev pub step_line : ℕ → Report → List ℕ
step_line a r = numeral a ++ report_text r ++ line_end

-- a forecast: the answer, lines, least cycles, the bytes of the list, and most cycles
abbrev pub forecast_line : ℕ → ℕ → ℕ → ℕ → ℕ → List ℕ
forecast_line a lines cycles bytes most =
    numeral a ++ spaced_numeral lines ++ spaced_numeral cycles ++ spaced_numeral bytes ++ spaced_numeral most ++ line_end

-- bad: a record that names no call
abbrev pub bad_line : List ℕ
bad_line = 98 ∷ 97 ∷ 100 ∷ 10 ∷ []

-- short: input that ends too early
abbrev pub short_line : List ℕ
short_line = 115 ∷ 104 ∷ 111 ∷ 114 ∷ 116 ∷ 10 ∷ []
