-- The code's own: the only word whose line a text can begin with, told by a few of its bytes. No other byte is tested here.
use Rattle.std.specs.Prelude.{List, ℕ, zero, suc, ◌+◌, ◌*◌, ◌/◌, ◌%◌, eqb, ltb, leb, get_or, drop}
use Rattle.common.specs.Choice.{if}

-- the value of a digit in a base by its character: 0 to 9 have it in their low 4 bits; A to F, with 9 less there, have bit 6
unfoldable pub value_of : ℕ → ℕ → ℕ
value_of base b = if (leb base 10) (b % 16) (b % 16 + b / 64 * 9)

-- the number whose k + 1 digits in a base a text begins with
abbrev pub digits_value : ℕ → ℕ → List ℕ → ℕ
digits_value base zero s = value_of base (get_or s 0 0)
digits_value base (suc k) s = digits_value base k s * base + value_of base (get_or s (suc k) 0)

-- the decimal number that a text begins with, of four digits at most: the character after it is below those of digits
unfoldable pub decimal_of : List ℕ → ℕ
decimal_of s =
    if (ltb (get_or s 1 0) 48) (digits_value 10 0 s)
    (if (ltb (get_or s 2 0) 48) (digits_value 10 1 s)
    (if (ltb (get_or s 3 0) 48) (digits_value 10 2 s) (digits_value 10 3 s)))

-- LOAD, a register of one or two digits, and the data after a blank
unfoldable pub guess_load : List ℕ → ℕ
guess_load s =
    if (ltb (get_or s 6 0) 48) (digits_value 10 0 (drop 5 s) * 256 + digits_value 16 1 (drop 7 s))
    (digits_value 10 1 (drop 5 s) * 256 + digits_value 16 1 (drop 8 s))

-- LOOP, and what is joined to it
abbrev pub guess_loop : List ℕ → ℕ
guess_loop s =
    if (eqb (get_or s 4 0) 43)
    (if (eqb (get_or s 5 0) 73) (if (eqb (get_or s 8 0) 43) 0x4031 0x4011) 0x4021)
    0x4001

-- by the first letter: L (then A or O), P, R, W, I, S; else NOP
unfoldable pub guess_of : List ℕ → ℕ
guess_of s =
    if (eqb (get_or s 0 0) 76) (if (eqb (get_or s 2 0) 65) (guess_load s % 65536) (guess_loop s))
    (if (eqb (get_or s 0 0) 80) (0x1000 + decimal_of (drop 6 s))
    (if (eqb (get_or s 0 0) 82) (0x2000 + decimal_of (drop 7 s))
    (if (eqb (get_or s 0 0) 87) (digits_value 16 3 (drop 5 s) % 65536)
    (if (eqb (get_or s 0 0) 73) (if (eqb (get_or s 3 0) 43) 0x4030 0x4010)
    (if (eqb (get_or s 0 0) 83) 0x4020 0x4000)))))
