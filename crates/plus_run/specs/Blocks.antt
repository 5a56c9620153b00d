-- The orders of a block of input, one after the other.
use Rattle.std.specs.Prelude.{◌≡◌, List, ℕ, zero, suc, ◌+◌, ◌-◌, ◌*◌, ◌%◌, ◌≤◌, leb, length, get_or}
use Rattle.common.specs.Choice.{if}
use Rattle.calls.specs.declared.Runner.{Runner}
use Rattle.orders.specs.declared.Order.{Order}
use Rattle.text.specs.Text.{Prints}
use Rattle.text.specs.Lines.{short_line}
use Rattle.calls.specs.Orders.{Running, running_of, SameBuffers, state_by}
use Rattle.orders.specs.Letters.{act_of}

-- the address of the order at a place of a block, low byte first
abbrev pub address_at : List ℕ → ℕ → ℕ
address_at block i = get_or block (i + 2) 0 * 256 + get_or block (i + 1) 0

-- the order at a place of a block: the letter, the address low and high, the value
pub record Takes (block : List ℕ) (i : ℕ) (o : Order) : Type 0 where
  pub letter : o.op ≡ get_or block i 0
  pub place : o.address ≡ address_at block i
  pub byte : o.value ≡ get_or block (i + 3) 0

-- a runner whose output lies in its buffer, with whole RAM
pub record Ready (m : Runner) : Type 0 where
  pub within : m.out.at ≤ length m.out.bytes.now
  pub buffer : length m.out.bytes.now ≡ 65536
  pub memory : length m.ram.now ≡ 65536

-- a runner with room for a line: where there is none, all that waits is written out first
abbrev pub emptied : Runner → Runner
emptied m = record m { out = record m.out { at = 0 } }

unfoldable pub roomy : Runner → Runner
roomy m = if (leb m.out.at (length m.out.bytes.now - 1024)) m (emptied m)

-- what making room promises
pub record Roomy (m r : Runner) : Type 0 where
  pub is : r ≡ roomy m
  pub running : running_of r ≡ running_of m
  pub lent : SameBuffers m r
  pub room : r.out.at + 1024 ≤ length r.out.bytes.now

-- the end of the input, after so many bytes of a block: a part of an order makes the last line
pub record Ends (m : Runner) (bytes : ℕ) (r : Runner) : Type 0 where
  pub running : running_of r ≡ running_of m
  pub lent : SameBuffers m r
  pub whole : bytes % 4 ≡ 0 → r ≡ m
  pub part : (bytes % 4 ≡ 0 → ⊥) → Prints (roomy m).out short_line r.out
  pub within : r.out.at ≤ length r.out.bytes.now

-- the state after the order at a place of a block
unfoldable pub order_served : Running → List ℕ → ℕ → Running
order_served s block i = state_by s (act_of (get_or block i 0) (address_at block i) (get_or block (i + 3) 0))

-- the state after the first k orders of a block
unfoldable pub orders_served : Running → List ℕ → ℕ → Running
orders_served s block zero = s
orders_served s block (suc k) = order_served (orders_served s block k) block (k * 4)
