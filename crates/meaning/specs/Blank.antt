-- The blank book is what a book made of refused parts means.
-- blank: edition 0, one item with one option, no links
use Rattle.std.specs.Prelude.{false, if◌then◌else◌, ◌&&◌, ◌==◌}
use Rattle.meaning.specs.Meaning.{Meaning}

abbrev pub blank : Meaning
blank = record {
  edition = 0;
  items = 1;
  options = λ i. (if i == 0 then 1 else 0);
  linked = λ i j. false;
  together = λ i a j b. (i == 0 && a == 0) && (j == 0 && b == 0);
}
