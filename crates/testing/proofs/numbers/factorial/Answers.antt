-- `testing::numbers::factorial` meets its contract: a factor takes the factorial to the next, and 20! fits 64 bits.
use Rattle.std.proofs.Common.{◌≡◌, ℕ, zero, suc, ◌-◌, ◌*◌, ◌≤◌, refl, mul_comm, arith, rules, le-ltb}
use Rattle.theory.specs.Bounds.{factorial}
use Rattle.theory.proofs.Bounds.Laws.{factorial-rises}
use Rattle.testing.specs.Numbers.{factorial_of}
use Rattle.testing.proofs.numbers.factorial.Goals as goal

largest : factorial 20 ≡ 2432902008176640000
unfolding factorial
largest = refl

grown : (i : ℕ) → 1 ≤ i → factorial (i - 1) * i ≡ factorial i
unfolding factorial
grown zero h = absurd (omega arith)
grown (suc i) h = let before : suc i - 1 ≡ i = omega arith in rw before (mul_comm (factorial i) (suc i))

few : (n : ℕ) → n ≤ 20 → factorial n ≡ factorial_of n
few n h = rw (le-ltb 20 n h) refl

pub loop-i-init : goal.loop-i-init
unfolding factorial
loop-i-init c = (omega arith, omega arith, refl)

pub overflow_mul-product : goal.overflow_mul-product
overflow_mul-product c = grind (arith, rules, largest, grown c.loop-i.i, factorial-rises c.loop-i.i 20)

pub loop-i-preserved : goal.loop-i-preserved
loop-i-preserved c = grind (arith, grown c.loop-i.i)

pub returns-else-n-gt-MOST : goal.returns-else-n-gt-MOST
returns-else-n-gt-MOST c = grind (arith, few c.args.n)

pub returns-else-n-gt-MOST-2 : goal.returns-else-n-gt-MOST-2
returns-else-n-gt-MOST-2 c = grind (arith, few c.args.n, grown c.loop-i.i)
