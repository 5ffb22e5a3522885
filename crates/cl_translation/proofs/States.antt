-- What stands of two states that are related: where a variable is found, and what is changed on both sides keeps the relation.
use Rattle.std.proofs.Common.{◌≡◌, ℕ, ◌+◌, ◌<◌, Bool, true, false, List, [], ◌∷◌, ◌++◌, length, refl, sym, ap, subst, ◌∙◌, arith, append-nil, length-append}
use Rattle.std.specs.Prelude.{ℤ, slice_set, if◌then◌else◌}
use Rattle.std.specs.List.{list_any}
use Rattle.cl_value.specs.declared.value.Value.{Value}
use Rattle.cl_ast.specs.declared.tree.TypeName.{TypeName}
use Rattle.cl_model.specs.Doing.{State}
use Rattle.cl_model.specs.Numbers.{number}
use Rattle.cl_listing.specs.Names.{Name}
use Rattle.cl_meaning.specs.Variables.{Scope, Variables, nowhere, found, with_element, set_in, has, set_from, changed}
use Rattle.cl_code.specs.Machine as machine
use Rattle.cl_code.specs.Machine.{Where, Local, Global, cells_at, with_cells}
use Rattle.cl_translation.specs.Layout.{Entry, all_width, Layout, scopes, Spot, Nowhere, Cells, spot_in, spot}
use Rattle.cl_translation.specs.Stands.{IsIn, ScopesAre, flat, all_flat, Stands}
use Rattle.cl_translation.proofs.Lists.{set_front}
use Rattle.cl_translation.proofs.Spots.{AtSpot, flat_long, in_one, in_all}
use Rattle.cl_translation.proofs.Changes.{SetIn, SetAll, set_one, set_all, not_in, none_in}

-- ---- reading

pub found_at : (bound : ℕ) (layout : Layout) (held : List ℤ) (s : State Variables) (t : State machine.Cells) → Stands bound layout held s t → (name : Name) → AtSpot (λ at. cells_at at t.variables) (spot name layout) (found name s.variables)
found_at bound layout held s t h name =
    in_all (λ at. cells_at at t.variables) name (scopes layout) s.variables.locals 0 _ _ [] (held ++ h.rest) h.inside h.frame refl
    (in_one (λ at. cells_at at t.variables) name Global layout.globals s.variables.globals 0 Nowhere nowhere [] [] h.outside (h.globals ∙ sym (append-nil (flat layout.globals s.variables.globals))) refl refl)

pub all_flat_long : (ess : List (List Entry)) (all : List Scope) → ScopesAre ess all → length (all_flat ess all) ≡ all_width ess
all_flat_long [] [] h = refl
all_flat_long [] (v ∷ vs) h = absurd h
all_flat_long (e ∷ es) [] h = absurd h
all_flat_long (es ∷ ess) (scope ∷ inner) h = omega (arith, length-append (flat es scope) (all_flat ess inner), flat_long (λ (w : Where). []) [] es scope h.0, all_flat_long ess inner h.1)

-- ---- a variable is changed

module _ (bound : ℕ) (layout : Layout) (held : List ℤ) (s : State Variables) (t : State machine.Cells) (h : Stands bound layout held s t) (name : Name) (i : ℕ) (w : Value) where
  abbrev pub changed_left : State Variables
  changed_left = record s { variables = changed name (with_element i w) s.variables }

  abbrev pub changed_right : Where → ℕ → State machine.Cells
  changed_right at k = record t { variables = with_cells at (slice_set (cells_at at t.variables) k (number w)) t.variables }

  inside_changed : (at : Where) (base : ℕ) → SetAll name i w at (scopes layout) s.variables.locals (set_from name (with_element i w) s.variables.locals) 0 base →
      Stands bound layout held (record s { variables = record s.variables { locals = set_from name (with_element i w) s.variables.locals } }) (changed_right at (base + i))
  inside_changed at base k = subst (λ (a : Where). Stands bound layout held (record s { variables = record s.variables { locals = set_from name (with_element i w) s.variables.locals } }) (changed_right a (base + i))) (sym k.same)
      (record {
        ticks = h.ticks;
        low = h.low;
        cells = h.cells;
        printed = h.printed;
        outside = h.outside;
        inside = k.stands;
        globals = h.globals;
        rest = h.rest;
        frame = ap (λ l. slice_set l (base + i) (number w)) h.frame
            ∙ (ap (λ m. slice_set (all_flat (scopes layout) s.variables.locals ++ (held ++ h.rest)) m (number w)) place
            ∙ (set_front (all_flat (scopes layout) s.variables.locals) (held ++ h.rest) (k.set.offset + i) (number w) k.set.low
            ∙ ap (λ l. l ++ (held ++ h.rest)) (sym k.set.is)));
      })
    where
      place : base + i ≡ k.set.offset + i
      place = omega (arith, k.set.place)

  outside_changed : (at : Where) (base : ℕ) → SetIn name i w Global at layout.globals s.variables.globals (set_in name (with_element i w) s.variables.globals) 0 base →
      Stands bound layout held (record s { variables = record s.variables { globals = set_in name (with_element i w) s.variables.globals } }) (changed_right at (base + i))
  outside_changed at base k = subst (λ (a : Where). Stands bound layout held (record s { variables = record s.variables { globals = set_in name (with_element i w) s.variables.globals } }) (changed_right a (base + i))) (sym k.same)
      (record {
        ticks = h.ticks;
        low = h.low;
        cells = h.cells;
        printed = h.printed;
        outside = k.stands;
        inside = h.inside;
        globals = ap (λ l. slice_set l (base + i) (number w)) h.globals ∙ (ap (λ m. slice_set (flat layout.globals s.variables.globals) m (number w)) place ∙ sym k.set.is);
        rest = h.rest;
        frame = h.frame;
      })
    where
      place : base + i ≡ k.set.offset + i
      place = omega (arith, k.set.place)

  pub changed_stands : (at : Where) (base size : ℕ) (of : TypeName) → spot name layout ≡ Cells at base size of → i < size → IsIn of w → Stands bound layout held changed_left (changed_right at (base + i))
  changed_stands at base size of is lt fit = by (list_any (has name) s.variables.locals) refl
    where
      outer : Spot
      outer = spot_in name Global layout.globals 0 Nowhere

      in_globals : (test : Bool) → has name s.variables.globals ≡ test → list_any (has name) s.variables.locals ≡ false → Stands bound layout held (record s { variables = record s.variables { globals = set_in name (with_element i w) s.variables.globals } }) (changed_right at (base + i))
      in_globals true here none = outside_changed at base (set_one name i w Global at layout.globals s.variables.globals 0 base size of Nowhere h.outside here (sym (none_in name i w (scopes layout) s.variables.locals 0 (spot_in name Global layout.globals 0 Nowhere) h.inside none) ∙ is) lt fit)
      in_globals false here none = absurd (let e : Nowhere ≡ Cells at base size of = sym (none_in name i w (scopes layout) s.variables.locals 0 (spot_in name Global layout.globals 0 Nowhere) h.inside none ∙ not_in name i w Global layout.globals s.variables.globals 0 Nowhere h.outside here) ∙ is in cc)

      by : (test : Bool) → list_any (has name) s.variables.locals ≡ test →
          Stands bound layout held (record s { variables = if test then record s.variables { locals = set_from name (with_element i w) s.variables.locals } else record s.variables { globals = set_in name (with_element i w) s.variables.globals } }) (changed_right at (base + i))
      by true some = inside_changed at base (set_all name i w at (scopes layout) s.variables.locals 0 base size of (spot_in name Global layout.globals 0 Nowhere) h.inside some is lt fit)
      by false none = in_globals (has name s.variables.globals) refl none
