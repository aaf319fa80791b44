-- What a joint book means, from the meanings of its two books.
-- agree: both books have the same edition, items and option counts
-- both: linked by either book, standing together by both
-- joint: what the joint book of any two books means; joint_check: the check's answer
use Rattle.std.specs.Prelude.{Bool, if◌then◌else◌, not, ◌&&◌, ◌||◌, Ok, Err, Result, ◌==◌, nat_eq, nat_lt}
use Rattle.bits.specs.Below.{every}
use Rattle.meaning.specs.Blank.{blank}
use Rattle.meaning.specs.Meaning.{Meaning}
use Rattle.meaning.specs.declared.refusal.Refusal.{Refusal}
use Rattle.meaning.specs.declared.refusal.Refusal.TheVariants.{BooksDoNotFit}

abbrev pub agree : Meaning → Meaning → Bool
agree m k = m.edition == k.edition && (m.items == k.items && every m.items (λ i. nat_eq (m.options i) (k.options i)))

abbrev pub both : Meaning → Meaning → Meaning
both m k = record {
  edition = m.edition;
  items = m.items;
  options = m.options;
  linked = λ i j. m.linked i j || k.linked i j;
  together = λ i a j b. m.together i a j b && k.together i a j b;
}

abbrev pub joint : Meaning → Meaning → Meaning
joint m k = if agree m k then both m k else blank

abbrev pub joint_check : Meaning → Meaning → Result (Unit {0}) Refusal
joint_check m k = if agree m k then Ok tt else Err BooksDoNotFit

-- The same for two books that agree, and lawful for any two: the second book is heard only of items of the first, and only where it links them.
abbrev pub cut : Meaning → Meaning → Meaning
cut m k = record {
  edition = m.edition;
  items = m.items;
  options = m.options;
  linked = λ i j. m.linked i j || ((nat_lt i m.items && nat_lt j m.items) && k.linked i j);
  together = λ i a j b. m.together i a j b && (not (k.linked i j) || k.together i a j b);
}

abbrev pub joined : Bool → Meaning → Meaning → Meaning
joined fits m k = if fits then cut m k else blank
