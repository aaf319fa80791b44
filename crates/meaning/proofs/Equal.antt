-- Two meanings that answer alike are equal.
use Rattle.std.proofs.Common.{◌≡◌, ℕ, Bool, ap, ◌∙◌}
use mathlib.Core.Path.{fun_ext}
use Rattle.meaning.specs.Meaning.{Meaning}

made : ℕ → ℕ → (ℕ → ℕ) → (ℕ → ℕ → Bool) → (ℕ → ℕ → ℕ → ℕ → Bool) → Meaning
made e n o l t = record { edition = e; items = n; options = o; linked = l; together = t }

pub meaning_equal : (m k : Meaning) → m.edition ≡ k.edition → m.items ≡ k.items → ((i : ℕ) → m.options i ≡ k.options i)
    → ((i j : ℕ) → m.linked i j ≡ k.linked i j) → ((i a j b : ℕ) → m.together i a j b ≡ k.together i a j b) → m ≡ k
unfolding made
meaning_equal m k e n o l t =
    ap (λ (x : ℕ). made x m.items m.options m.linked m.together) e
    ∙ ap (λ (x : ℕ). made k.edition x m.options m.linked m.together) n
    ∙ ap (λ (x : ℕ → ℕ). made k.edition k.items x m.linked m.together) (fun_ext o)
    ∙ ap (λ (x : ℕ → ℕ → Bool). made k.edition k.items k.options x m.together) (fun_ext (λ i. fun_ext (l i)))
    ∙ ap (λ (x : ℕ → ℕ → ℕ → ℕ → Bool). made k.edition k.items k.options k.linked x) (fun_ext (λ i. fun_ext (λ a. fun_ext (λ j. fun_ext (t i a j)))))
