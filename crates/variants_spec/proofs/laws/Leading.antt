-- The test decides which variant leads. To lead is a strict order, and of two variants with
-- different first lines one leads the other: by more cases, or else by the earlier first line.
-- Assumes nothing.
use Prim.Native.Nat.{◌<◌}
use native.Mathlib.Omega.{arith}
use mathlib.Core.Path.{◌≡◌, refl, sym, ◌∙◌}
use mathlib.Core.Logic.{◌↔◌}
use mathlib.Core.Bool.{true, false, true≢false, false≢true}
use lib.Dec.{eqb, ltb}
use borrow.Author.Tests.{eqb-true, eq-eqb, ltb-true, ltb-false, lt-ltb}
use Rattle.foundation.proofs.laws.Booleans.{by_test}
use Rattle.variants_spec.specs.declared.Variant.{Variant}
use Rattle.variants_spec.specs.Summary.{leads}
use Rattle.variants_spec.specs.SummaryOf.{Leads, by_cases, by_line}

leads_by : (p q : Variant) → leads p q ≡ true → Leads p q
unfolding leads
leads_by p q e =
    by_test
    (ltb q.cases p.cases)
    (λ t. by_cases (ltb-true q.cases p.cases t))
    (λ f. by_test
    (eqb p.cases q.cases)
    (λ same. by_line (eqb-true p.cases q.cases same) (ltb-true p.first_line q.first_line (rw (f, same) at e)))
    (λ other. absurd (false≢true (rw (f, other) at e))))

by_leads : (p q : Variant) → Leads p q → leads p q ≡ true
unfolding leads
by_leads p q (by_cases less) = rw (lt-ltb q.cases p.cases less) refl
by_leads p q (by_line same less) =
    by_test
    (ltb q.cases p.cases)
    (λ t. rw t refl)
    (λ f. rw (f, eq-eqb p.cases q.cases same, lt-ltb p.first_line q.first_line less) refl)

pub leads_decides : (p q : Variant) → (leads p q ≡ true) ↔ Leads p q
leads_decides p q = (leads_by p q, by_leads p q)

pub leads_irreflexive : (p : Variant) → Leads p p → ⊥
leads_irreflexive p (by_cases less) = absurd (omega (arith, less))
leads_irreflexive p (by_line same less) = absurd (omega (arith, less))

pub leads_onward : (p q r : Variant) → Leads p q → Leads q r → Leads p r
leads_onward p q r (by_cases less) (by_cases less') = by_cases (omega (arith, less, less'))
leads_onward p q r (by_cases less) (by_line same less') = by_cases (omega (arith, less, same))
leads_onward p q r (by_line same less) (by_cases less') = by_cases (omega (arith, same, less'))
leads_onward p q r (by_line same less) (by_line same' less') = by_line (omega (arith, same, same')) (omega (arith, less, less'))

-- of two with different first lines, the one leads that the other does not lead
pub leads_either : (p q : Variant) → (p.first_line ≡ q.first_line → ⊥) → (Leads q p → ⊥) → Leads p q
leads_either p q differ fails =
    by_test
    (ltb q.cases p.cases)
    (λ t. by_cases (ltb-true q.cases p.cases t))
    (λ f. by_test
    (ltb p.cases q.cases)
    (λ t. absurd (fails (by_cases (ltb-true p.cases q.cases t))))
    (λ g. let same : p.cases ≡ q.cases = omega (arith, ltb-false q.cases p.cases f, ltb-false p.cases q.cases g) in
    by_test
    (ltb p.first_line q.first_line)
    (λ t. by_line same (ltb-true p.first_line q.first_line t))
    (λ h. let less : q.first_line < p.first_line = omega (arith, ltb-false p.first_line q.first_line h, differ) in
    absurd (fails (by_line (sym same) less)))))

-- by the test
pub leads_tested : (p q : Variant) → (p.first_line ≡ q.first_line → ⊥) → leads q p ≡ false → Leads p q
leads_tested p q differ f = leads_either p q differ (λ back. true≢false (sym (by_leads q p back) ∙ f))
