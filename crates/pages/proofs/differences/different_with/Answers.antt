-- `pages::differences::different_with` meets its contract, word by word.
use Rattle.std.proofs.Common.{◌≡◌, ◌<◌, ◌∙◌, refl, sym, ap, ℕ, List, length, get_or, arith}
use Rattle.pages.specs.Private.Differences.{all_different, chain_of, Chained, Room}
use Rattle.pages.proofs.AllDifferent.{one-more-different, two-are-equal, all-are-different}
use Rattle.pages.proofs.Chains.{Next, chained-first, chained-next, walk_first, absent-first}
use Rattle.pages.proofs.differences.different_with.Goals as goal

-- what is known of a word's chain before the word is looked for
next : {words heads₀ links₀ heads links : List ℕ} {i h : ℕ} → Room words heads₀ links₀
    → Chained (chain_of (length heads₀)) words heads links i → length heads ≡ length heads₀
    → length links ≡ length links₀ → i < length words
    → (h ≡ chain_of (length heads) (get_or words i 0)) × (h < length heads)
    → Next (chain_of (length heads₀)) words heads links i h
next {words} {i = i} room chained heads-long links-long there chain = record {
  chained = chained;
  its-chain = chain.0 ∙ ap (λ n. chain_of n (get_or words i 0)) heads-long;
  a-head = chain.1;
  a_word = there;
  a-link = omega (arith, room.enough);
}

pub loop-i-init : goal.loop-i-init
unfolding all_different
loop-i-init c = record { chained = chained-first _ _ _ _ c.requires.zeros; different = refl }

pub fresh-requires : goal.fresh-requires
fresh-requires c =
    walk_first (next c.requires c.loop-i.invariant.chained c.loop-i.auto.heads c.loop-i.auto.links c.loop-i-test.true c.chain-place.ensures)

pub returns-then-not-fresh : goal.returns-then-not-fresh
returns-then-not-fresh c =
    let n = next c.requires c.loop-i.invariant.chained c.loop-i.auto.heads c.loop-i.auto.links c.loop-i-test.true c.chain-place.ensures in
    two-are-equal _ _ c.loop-i-test.true c.loop-i.invariant.different
    (sym (c.fresh.ensures ∙ absent-first n) ∙ c.if-not-fresh.true)

pub loop-i-preserved : goal.loop-i-preserved
loop-i-preserved c =
    let n = next c.requires c.loop-i.invariant.chained c.loop-i.auto.heads c.loop-i.auto.links c.loop-i-test.true c.chain-place.ensures in
    record {
      chained = chained-next n;
      different = one-more-different _ _ c.loop-i-test.true c.loop-i.invariant.different
          (sym (c.fresh.ensures ∙ absent-first n) ∙ c.if-not-fresh.false);
    }

pub returns : goal.returns
returns c = all-are-different _ _ c.loop-i-test.false c.loop-i.invariant.different
