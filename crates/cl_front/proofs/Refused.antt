-- Refusals of one kind at one place are one.
use Rattle.std.proofs.Common.{◌≡◌, ℕ, refl, sym, subst}
use Rattle.cl_front.specs.declared.refusal.Refusal.{Refusal}
use Rattle.cl_front.specs.declared.refusal.RefusalKind.{RefusalKind}

pub same_refusal : (kind : RefusalKind) (place : ℕ) (other : Refusal) → kind ≡ other.kind → place ≡ other.place → record { kind = kind; place = place } ≡ other
same_refusal kind place other same_kind same_place =
    subst (λ (k : RefusalKind). record { kind = k; place = place } ≡ other) (sym same_kind) (subst (λ (p : ℕ). record { kind = other.kind; place = p } ≡ other) (sym same_place) refl)
