-- The three levels, each as a condition on an option a of item i, seen on one linked item j:
-- arc consistency (Mohr and Henderson, "Arc and path consistency revisited"), restricted path consistency
-- (Berlandier, "Improving domain filtering using restricted path consistency") and max-restricted path consistency
-- (Debruyne and Bessière, "From restricted path consistency to max-restricted path consistency").
-- Linked: j is an item that the book links with i
-- Partner: an option b of j in the set that stands with a
-- Lone: b is the only partner of a on j
-- Witness: an option w of a third item k in the set that stands with both a and b
-- PathPartner: a partner with a witness on every third item that is linked to both i and j
-- Meets: the condition holds on every linked item
use Rattle.std.specs.Prelude.{◌≡◌, ℕ, ◌<◌, T, ◌≢◌}
use Rattle.meaning.specs.Meaning.{Meaning}
use Rattle.levels.specs.Sets.{Set, Has}
use Rattle.levels.specs.declared.level.Level.{Level}
use Rattle.levels.specs.declared.level.Level.TheVariants.{Arc, RestrictedPath, MaxRestrictedPath}

abbrev pub Linked : Meaning → ℕ → ℕ → Type 0
Linked m i j = (j < m.items) × T (m.linked i j)

abbrev pub Partner : Meaning → Set → ℕ → ℕ → ℕ → ℕ → Type 0
Partner m s i a j b = Has m s j b × T (m.together i a j b)

abbrev pub Lone : Meaning → Set → ℕ → ℕ → ℕ → ℕ → Type 0
Lone m s i a j b = Partner m s i a j b × ((c : ℕ) → Partner m s i a j c → c ≡ b)

abbrev pub Witness : Meaning → Set → ℕ → ℕ → ℕ → ℕ → ℕ → ℕ → Type 0
Witness m s i a j b k w = Has m s k w × T (m.together i a k w) × T (m.together j b k w)

abbrev pub PathPartner : Meaning → Set → ℕ → ℕ → ℕ → ℕ → Type 0
PathPartner m s i a j b =
    Partner m s i a j b × ((k : ℕ) → k ≢ i → k ≢ j → Linked m i k → Linked m j k → (w : ℕ) × Witness m s i a j b k w)

-- what is asked of option a of item i on a linked item j
abbrev pub Condition : Type 1
Condition = Meaning → Set → ℕ → ℕ → ℕ → Type 0

-- level 0: a partner
abbrev pub ArcOn : Condition
ArcOn m s i a j = (b : ℕ) × Partner m s i a j b

-- level 1: a partner, and where there is exactly one, that one is a path partner
abbrev pub RestrictedPathOn : Condition
RestrictedPathOn m s i a j = ArcOn m s i a j × ((b : ℕ) → Lone m s i a j b → PathPartner m s i a j b)

-- level 2: a path partner
abbrev pub MaxRestrictedPathOn : Condition
MaxRestrictedPathOn m s i a j = (b : ℕ) × PathPartner m s i a j b

abbrev pub level_on : Level → Condition
level_on Arc = ArcOn
level_on RestrictedPath = RestrictedPathOn
level_on MaxRestrictedPath = MaxRestrictedPathOn

abbrev pub Meets : Condition → Meaning → Set → ℕ → ℕ → Type 0
Meets C m s i a = (j : ℕ) → Linked m i j → C m s i a j
