-- The blank book keeps the laws.
use Rattle.std.proofs.Common.{refl, arith}
use Rattle.std.proofs.lemmas.Bool.Decides.{nat_tests}
use Rattle.meaning.specs.Meaning.{Lawful}
use Rattle.meaning.specs.Blank.{blank}

pub blank_lawful : Lawful blank
blank_lawful = record {
  items_least = omega arith;
  items_most = omega arith;
  options_least = λ i h. grind (arith, nat_tests);
  options_most = λ i. grind (arith, nat_tests);
  options_missing = λ i h. grind (arith, nat_tests);
  linked_missing = λ i j h. refl;
  linked_self = λ i. refl;
  linked_mutual = λ i j. refl;
  together_missing = λ i a j b h. grind (arith, nat_tests);
  together_mutual = λ i a j b. grind (arith, nat_tests);
  together_unlinked = λ i a j b e h k. grind (arith, nat_tests);
}
