-- What is declared one by one. (This project.)
use Rattle.std.proofs.Common.{◌≡◌, ◌∙◌, ◌<◌, ◌≤◌, ◌+◌, ap, sym, refl, ℕ, List, [], ◌∷◌, drop, length, get_or}
use Rattle.cl_ast.specs.declared.tree.TypeName.{TypeName}
use Rattle.cl_ast.specs.declared.statement.Declarator.{Declarator}
use Rattle.cl_ast.specs.declared.statement.Item.{Item}
use Rattle.cl_ast.specs.declared.statement.Item.TheVariants as items
use Rattle.cl_meaning.specs.Variables.{Scope}
use Rattle.cl_meaning.specs.Outer.{with_globals, outer_from}
use Rattle.cl_walk.proofs.GroundLists.{at_index, drop_end}

-- those that are left lead from here to the same scope
abbrev pub GlobalsLead : TypeName → List Declarator → ℕ → Scope → Scope → Type 0
GlobalsLead of ds i first now = with_globals now of (drop i ds) ≡ with_globals first of ds

pub globals_lead_on : (of : TypeName) (ds : List Declarator) (i : ℕ) (d : Declarator) (first now next : Scope) → GlobalsLead of ds i first now → i < length ds → d ≡ get_or ds i d → next ≡ with_globals now of (d ∷ []) → GlobalsLead of ds (i + 1) first next
globals_lead_on of ds i d first now next leads few is h = ap (λ s. with_globals s of (drop (i + 1) ds)) h ∙ (sym (ap (with_globals now of) (at_index ds i d few is)) ∙ leads)

pub globals_lead_to : (of : TypeName) (ds : List Declarator) (i : ℕ) (first now : Scope) → GlobalsLead of ds i first now → length ds ≤ i → now ≡ with_globals first of ds
globals_lead_to of ds i first now leads past = sym (ap (with_globals now of) (drop_end ds i past)) ∙ leads

abbrev pub ItemsLead : List Item → ℕ → Scope → Type 0
ItemsLead xs i now = outer_from now (drop i xs) ≡ outer_from [] xs

one_item : (x : Item) (xs : List Item) (now : Scope) → outer_from (outer_from now (x ∷ [])) xs ≡ outer_from now (x ∷ xs)
one_item (items.Define d) xs now = refl
one_item (items.Variables v) xs now = refl
one_item (items.Function f) xs now = refl

pub items_lead_on : (xs : List Item) (i : ℕ) (x : Item) (now next : Scope) → ItemsLead xs i now → i < length xs → x ≡ get_or xs i x → next ≡ outer_from now (x ∷ []) → ItemsLead xs (i + 1) next
items_lead_on xs i x now next leads few is h = ap (λ s. outer_from s (drop (i + 1) xs)) h ∙ (one_item x (drop (i + 1) xs) now ∙ (sym (ap (outer_from now) (at_index xs i x few is)) ∙ leads))

pub items_lead_to : (xs : List Item) (i : ℕ) (now : Scope) → ItemsLead xs i now → length xs ≤ i → now ≡ outer_from [] xs
items_lead_to xs i now leads past = sym (ap (outer_from now) (drop_end xs i past)) ∙ leads
