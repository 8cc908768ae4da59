-- `listing::shape_words`: the listings and their words are computed.
use Rattle.std.proofs.Common.{refl}
use Rattle.theory.specs.Digits.{word}
use Rattle.theory.specs.Listing.{listing, partitions, words_below}
use Rattle.listing.proofs.shape_words.Goals as goal

pub returns : goal.returns
unfolding words_below listing partitions word
returns c = refl
