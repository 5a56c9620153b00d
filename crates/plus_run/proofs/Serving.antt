-- Laws of the orders of a block, served one after another.
use mathlib.Core.Path.{◌≡◌, ◌∙◌}
use mathlib.Core.List.{List, []}
use Prim.Native.Nat.{ℕ, ◌+◌, ◌*◌, ◌<◌}
use native.Mathlib.Nat.{add-zero}
use native.Mathlib.Numerals.{add-one}
use native.Mathlib.Omega.{arith}
use lib.ListN.{get_or, take, drop}
use Rattle.std.proofs.lemmas.List.{get_or-take, get_or-drop}
use Rattle.std.specs.Simd.{first_chunks}
use Rattle.common.proofs.Chunks.{chunk-at}
use Rattle.orders.specs.declared.Order.{Order}
use Rattle.calls.specs.Orders.{Running}
use Rattle.orders.specs.Letters.{Serves}
use Rattle.plus_run.specs.Blocks.{Takes, order_served, orders_served}

-- a byte of an order's four
byte : (block : List ℕ) (i j : ℕ) → j < 4 → get_or (take 4 (drop i block)) j 0 ≡ get_or block (i + j) 0
byte block i j h = rw (get_or-take, get_or-drop)

-- the order in four bytes of a block is that at their place
pub taken : (block : List ℕ) (n i : ℕ) (o : Order) → i < n → Takes (get_or (first_chunks 4 n block) i []) 0 o → Takes block (i * 4) o
taken block n i o h t =
    let u = rw (chunk-at 4 n block i h) at t in
    record {
      letter = u.letter ∙ byte block (i * 4) 0 (omega arith) ∙ rw add-zero;
      place = u.place ∙ simp (byte block (i * 4) 2 (omega arith), byte block (i * 4) 1 (omega arith));
      byte = u.byte ∙ byte block (i * 4) 3 (omega arith);
    }

-- the order at a place of a block is served
pub served-order :
    {s s' : Running} {before after block : List ℕ} {o : Order} {at at' i : ℕ} → Takes block i o → Serves s o s' before at after at' →
    s' ≡ order_served s block i
unfolding order_served
served-order t k = k.does.state ∙ rw (t.letter, t.place, t.byte)

-- one more order of a block is served
pub served-more :
    (s : Running) (block : List ℕ) (k : ℕ) {t u : Running} → t ≡ orders_served s block k → u ≡ order_served t block (k * 4) →
    u ≡ orders_served s block (k + 1)
unfolding orders_served
served-more s block k e f = rw (add-one, f, e)
