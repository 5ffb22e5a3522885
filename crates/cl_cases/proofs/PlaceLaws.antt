-- Where no fault is noted in a place, it is there when it is found, and still is behind whatever is evaluated then.
use Rattle.std.proofs.Common.{◌≡◌, ◌∙◌, ap, sym, subst, refl, ℕ, ◌<◌, Bool, true, false, List, [], ◌∷◌, ◌++◌, map, length, Option, Some, None, arith}
use Rattle.std.proofs.lemmas.Bool.{ltb-true}
use Rattle.std.specs.Prelude.{option_map, nat_lt, if◌then◌else◌, Ok, Err, ℤ, pos, negsuc}
use Rattle.cl_value.specs.declared.process.Trap.TheVariants.{IndexRange}
use Rattle.cl_value.specs.declared.value.Value.{Value}
use Rattle.cl_value.specs.declared.value.Value.TheVariants as values
use Rattle.cl_value.specs.Plain.{PlainRequest}
use Rattle.cl_ast.specs.declared.span.Span.{Span}
use Rattle.cl_ast.specs.declared.tree.TypeName.{TypeName}
use Rattle.cl_ast.specs.declared.statement.Size.{Size}
use Rattle.cl_ast.specs.declared.statement.Stmt.TheVariants as stmts
use Rattle.cl_ast.specs.declared.statement.Variables.{Variables as Declaring}
use Rattle.cl_meaning.specs.Statements.{Exit, declarator_does, declaration_does, does}
use Rattle.cl_meaning.specs.Statements as meaning
use Rattle.cl_types.specs.declared.context.Context.{Context}
use Rattle.cl_typing.specs.Bodies as bodies
use Rattle.cl_typing.specs.Bodies.{stands, are_settled}
use Rattle.cl_typing.specs.Steps.{Right}
use Rattle.cl_typing.proofs.Settled as settled_forms
use Rattle.cl_typing.proofs.Process.{statements_lead}
use Rattle.cl_ast.specs.declared.tree.Verb.{Verb}
use Rattle.cl_ast.specs.declared.tree.Expr.{Expr}
use Rattle.cl_ast.specs.declared.tree.Expr.TheViews.{out-Field, roll-Field, roll-out-Field}
use Rattle.cl_ast.specs.declared.tree.Expr.TheOpen.{Field-F}
use Rattle.cl_ast.specs.declared.tree.Place.{Place, out-Place}
use Rattle.cl_ast.specs.declared.tree.Call.{Call}
use Rattle.cl_ast.specs.declared.tree.Chain.{Chain}
use Rattle.cl_ast.specs.declared.tree.Link.{Link}
use Rattle.cl_ast.specs.declared.tree.Prefix.{Prefix}
use Rattle.cl_ast.specs.declared.tree.Operation.{Operation, out-Operation}
use Rattle.cl_ast.specs.declared.tree.Field.{Field}
use Rattle.cl_ast.specs.declared.tree.Field.TheVariants as fields
use Rattle.cl_ast.specs.declared.tree.Formal.{Formal, out-Formal}
use Rattle.cl_ast.specs.declared.statement.Change.{Change}
use Rattle.cl_ast.specs.declared.statement.Change.TheVariants as changes
use Rattle.cl_ast.specs.declared.statement.Function.{Function}
use Rattle.cl_ast.specs.declared.statement.Item.{Item}
use Rattle.cl_model.specs.Doing.{Steps, State, Checked, then_do, ◌>>=◌, pure, trap, variables, checked, each_onto, each}
use Rattle.cl_model.specs.Numbers.{number}
use Rattle.cl_listing.specs.Names.{Name}
use Rattle.cl_meaning.specs.Variables.{Variable, Variables, found}
use Rattle.cl_meaning.specs.Operations.{Does, Aim, Holds, index_of, place, variable, store, formal}
use Rattle.cl_meaning.specs.Expressions.{Surroundings, value, place_meant}
use Rattle.cl_meaning.specs.Outer.{functions_of, outer, size_in}
use Rattle.cl_meaning.specs.Parts.{field_aim}
use Rattle.cl_meaning.proofs.Equations as equations
use Rattle.cl_meaning.proofs.Sentences as meant
use Rattle.cl_types.specs.declared.context.Access.{Access}
use Rattle.cl_types.specs.declared.context.Access.TheVariants as accesses
use Rattle.cl_types.specs.declared.declared.Declared.{Declared}
use Rattle.cl_types.specs.declared.declared.Declared.TheVariants as declareds
use Rattle.cl_types.specs.Notes.{found_all}
use Rattle.cl_types.specs.Declarations.{Declaration, look_up}
use Rattle.cl_types.specs.Expressions.{Judged, access_type, place_type, place_faults, is_indexed, index_notes, formal_faults, width_faults, all_noted, judged, judged_place, field_notes, operation_notes}
use Rattle.cl_types.specs.Expressions as rule
use Rattle.cl_types.specs.Statements.{Walked, change_notes}
use Rattle.cl_types.proofs.Rules as rules
use Rattle.cl_types.proofs.Sentences as sentences
use Rattle.cl_types.proofs.Clean.{Clean, clean_split, none_found}
use Rattle.cl_typing.specs.Standing.{FitsAs, Fits, Scene}
use Rattle.cl_typing.specs.Texts.{outside}
use Rattle.cl_typing.specs.Laws.{around}
use Rattle.cl_typing.proofs.Found.{found_fits}
use Rattle.cl_typing.proofs.Places.{Accesses, may_access}
use Rattle.cl_cases.specs.Outlines.{AtEnd, outline}
use Rattle.cl_cases.specs.Places.{IsDeclared, IsThere, AreThere, SceneOf, IsOutlined, DeclaratorsLead, PlacesAreThere, ReadsAreThere, right_side, AssignmentsAreThere, FormalsAreThere}
use Rattle.cl_cases.proofs.OutlineSteps.{Same, Within, then_ends, ends_more}
use Rattle.cl_cases.proofs.OutlineExpressions.{CallsStay, same_pure, same_store, value_stays, place_stays}
use Rattle.cl_cases.proofs.OutlineLaws.{stay}
use Rattle.cl_cases.proofs.PlaceFacts.{still_declared, still_there, all_there, there_append, stands_declared}

ends_both : {A : Type 0} (P Q : A → State Variables → Type 0) (d : Steps (A × State Variables)) → AtEnd P d → AtEnd Q d → AtEnd (λ a t. P a t × Q a t) d
ends_both P Q (Steps.Gives r) h k = (h, k)
ends_both P Q (Steps.Prints bytes rest) h k = ends_both P Q rest h k
ends_both P Q (Steps.Asks q rest) h k = λ reply. ends_both P Q (rest reply) (h reply) (k reply)
ends_both P Q (Steps.Stops t) h k = tt

-- ---- indices

in_range : (z : ℤ) (size k : ℕ) → index_of z size ≡ Ok k → k < size
in_range (negsuc n) size k h = absurd cc
in_range (pos n) size k h = by (nat_lt n size) refl h
  where
    by : (b : Bool) → nat_lt n size ≡ b → (if b then Ok n else Err IndexRange) ≡ Ok k → k < size
    by true is e = let same : n ≡ k = cc in subst (λ m. m < size) same (ltb-true n size is)
    by false is e = absurd cc

checked_ends : {A : Type 0} (P : A → State Variables → Type 0) (c : Checked A) (s : State Variables) → ((a : A) → c ≡ Ok a → P a s) → AtEnd P (checked c s)
unfolding checked pure trap
checked_ends P (Ok a) s k = k a refl
checked_ends P (Err t) s k = tt

-- an index that was evaluated is tested by the variable that is there then
tested : (name : Name) (i : Value) (s : State Variables) → IsDeclared name s.variables →
    AtEnd (λ k t. IsThere name k t.variables) ((variable name >>= (λ v. checked (index_of (number i) (length v.values)))) s)
unfolding ◌>>=◌ variable variables pure then_do
tested name i s h = checked_ends (λ k t. IsThere name k t.variables) (index_of (number i) (length (found name s.variables).values)) s (λ k is. (h, in_range (number i) (length (found name s.variables).values) k is))

-- ---- places

-- what has no index has a value
one_value : (access : Access) (what : Declared) (t : TypeName) (v : Variable) → access_type access false what ≡ Some t → FitsAs what v → 0 < length v.values
one_value access (declareds.Scalar u) t v h f = omega (arith, f.1)
one_value access (declareds.Constant n) t v h f = omega (arith, f.1)
one_value accesses.Read (declareds.Array u) t v h f = absurd cc
one_value accesses.Write (declareds.Array u) t v h f = absurd cc
one_value accesses.Read (declareds.Function g) t v h f = absurd cc
one_value accesses.Write (declareds.Function g) t v h f = absurd cc

-- the variable of a place is in a scope, and where there is no index it has a value
abbrev pub Named : Place → Variables → Type 0
Named p all = IsDeclared (out-Place p).name.bytes all × ((out-Place p).index ≡ None → IsThere (out-Place p).name.bytes 0 all)

still_named : (p : Place) (all now : Variables) → outline now ≡ outline all → Named p all → Named p now
still_named p all now is h = (still_declared (out-Place p).name.bytes all now is h.0, λ none. still_there (out-Place p).name.bytes 0 all now is (h.1 none))

module _ (functions : List Function) (globals : List Declaration) (c : Scene functions globals) where
  accesses_of : (p : Place) (access : Access) → Clean (judged_place p access c.known).notes →
      Accesses globals (c.outer ++ c.inner ∷ []) (out-Place p).name.bytes access (is_indexed (option_map (λ e. judged e c.known) (out-Place p).index)) (place_type access (is_indexed (option_map (λ e. judged e c.known) (out-Place p).index)) (look_up (out-Place p).name.bytes c.known))
  accesses_of p access clean =
      let name = (out-Place p).name in
      let index = option_map (λ e. judged e c.known) (out-Place p).index in
      let noted = found_all (place_faults access (is_indexed index) (look_up name.bytes c.known)) name.span.start in
      let clear : Clean (noted ++ index_notes index) = subst (λ (j : Judged). Clean j.notes) (rules.place_is p access c.known) clean in
      may_access functions globals c.outer c.inner c.known c.sees name.bytes access (is_indexed index) (none_found (place_faults access (is_indexed index) (look_up name.bytes c.known)) name.span.start (clean_split noted (index_notes index) clear).0)

  pub named : (p : Place) (access : Access) → Clean (judged_place p access c.known).notes → (all : Variables) → Fits globals (c.outer ++ c.inner ∷ []) all → Named p all
  named p access clean all fits =
      let a = accesses_of p access clean in
      let name = (out-Place p).name.bytes in
      let locals = c.outer ++ c.inner ∷ [] in
      let declared = stands_declared name a.what globals locals all a.stands fits in (
        declared,
        λ none.
            let plain : access_type access false a.what ≡ Some a.type = subst (λ (i : Option Expr). access_type access (is_indexed (option_map (λ e. judged e c.known) i)) a.what ≡ Some a.type) none a.typed in
            (declared, one_value access a.what a.type (found name all) plain (found_fits name a.what globals locals all a.stands fits)),
      )

module _ (around : Surroundings) (stay : CallsStay around) where
  behind : {A : Type 0} (d : Does A) → Within Same d → (s : State Variables) → AtEnd (λ a t. outline t.variables ≡ outline s.variables) (d s)
  behind d h s = ends_more (λ a t. Same s t) (λ a t. outline t.variables ≡ outline s.variables) (d s) (h s) (λ a t p. p.0)

  -- a place is there where its name is in a scope before
  place_there : (name : Name) (index : Option Expr) (s : State Variables) → IsDeclared name s.variables → (index ≡ None → IsThere name 0 s.variables) → AtEnd (λ k t. IsThere name k t.variables) (place name (option_map (value around) index) s)
  unfolding place pure ◌>>=◌
  place_there name None s h k = k refl
  place_there name (Some x) s h k = then_ends (λ v t. outline t.variables ≡ outline s.variables) (λ k t. IsThere name k t.variables) (value around x s) _ (behind (value around x) (value_stays around stay x) s)
      (λ i t is. tested name i t (still_declared name s.variables t.variables is h))

  pub found_there : (p : Place) (s : State Variables) → Named p s.variables → AtEnd (λ k t. IsThere (out-Place p).name.bytes k t.variables) ((place_meant around p).at s)
  found_there p s h = subst (λ (d : Does ℕ). AtEnd (λ k t. IsThere (out-Place p).name.bytes k t.variables) (d s)) (sym (equations.place_at around p)) (place_there (out-Place p).name.bytes (out-Place p).index s h.0 h.1)

  pub index_declared : (p : Place) (x : Expr) (s : State Variables) → Named p s.variables → AtEnd (λ v t. IsDeclared (out-Place p).name.bytes t.variables) (value around x s)
  index_declared p x s h = ends_more (λ v t. outline t.variables ≡ outline s.variables) (λ v t. IsDeclared (out-Place p).name.bytes t.variables) (value around x s) (behind (value around x) (value_stays around stay x) s)
      (λ v t is. still_declared (out-Place p).name.bytes s.variables t.variables is h.0)

  -- ---- assignments

  right_stays : (x : Change) → Within Same (right_side around x)
  right_stays (changes.Set e) = value_stays around stay e
  right_stays (changes.Add e) = value_stays around stay e
  right_stays (changes.Subtract e) = value_stays around stay e
  right_stays (changes.Multiply e) = value_stays around stay e
  right_stays changes.Increment = same_pure (values.Int (pos 1))
  right_stays changes.Decrement = same_pure (values.Int (pos 1))

  kept_there : (name : Name) (k : ℕ) (d : Does Value) → Within Same d → (s : State Variables) → IsThere name k s.variables → AtEnd (λ (r : ℕ × Value) t. IsThere name r.0 t.variables) ((d >>= (λ v. pure (k, v))) s)
  unfolding ◌>>=◌ pure
  kept_there name k d h s there = then_ends (λ v t. outline t.variables ≡ outline s.variables) (λ (r : ℕ × Value) t. IsThere name r.0 t.variables) (d s) _ (behind d h s) (λ v t is. still_there name k s.variables t.variables is there)

  pub change_there : (p : Place) (x : Change) (s : State Variables) → Named p s.variables →
      AtEnd (λ (r : ℕ × Value) t. IsThere (out-Place p).name.bytes r.0 t.variables) (((place_meant around p).at >>= (λ k. right_side around x >>= (λ v. pure (k, v)))) s)
  unfolding ◌>>=◌
  change_there p x s h = then_ends (λ k t. IsThere (out-Place p).name.bytes k t.variables) (λ (r : ℕ × Value) t. IsThere (out-Place p).name.bytes r.0 t.variables) ((place_meant around p).at s) _ (found_there p s h)
      (λ k t there. kept_there (out-Place p).name.bytes k (right_side around x) (right_stays x) t there)

  -- ---- fields

  -- a field that was read, with the outline that stood before
  abbrev FieldEnds : Variables → Aim → State Variables → Type 0
  FieldEnds all a t = (outline t.variables ≡ outline all) × AreThere (a ∷ []) t.variables

  formal_ends : (all : Variables) (name : Name) (at : Does ℕ) (s : State Variables) → AtEnd (λ k t. (outline t.variables ≡ outline all) × IsThere name k t.variables) (at s) → AtEnd (FieldEnds all) (formal name at s)
  unfolding formal ◌>>=◌ variable variables pure then_do
  formal_ends all name at s h = then_ends (λ k t. (outline t.variables ≡ outline all) × IsThere name k t.variables) (FieldEnds all) (at s) _ h (λ k t p. (p.0, (p.1, tt)))

  text_ends : (all : Variables) (v : Value) (s : State Variables) → outline s.variables ≡ outline all → AtEnd (FieldEnds all) (pure (Holds v) s)
  unfolding pure
  text_ends all v s is = (is, tt)

  plain_ends : (all : Variables) (x : Expr) (s : State Variables) → outline s.variables ≡ outline all → AtEnd (FieldEnds all) ((value around x >>= (λ v. pure (Holds v))) s)
  unfolding ◌>>=◌ pure
  plain_ends all x s is = then_ends (λ v t. outline t.variables ≡ outline s.variables) (FieldEnds all) (value around x s) _ (behind (value around x) (value_stays around stay x) s) (λ v t same. (same ∙ is, tt))

  module _ (functions : List Function) (globals : List Declaration) (c : Scene functions globals) (all : Variables) (fits : Fits globals (c.outer ++ c.inner ∷ []) all) where
    target_ends : (p : Place) → Clean (judged_place p accesses.Write c.known).notes → (s : State Variables) → outline s.variables ≡ outline all → AtEnd (λ k t. (outline t.variables ≡ outline all) × IsThere (out-Place p).name.bytes k t.variables) ((place_meant around p).at s)
    target_ends p clean s is =
        let there = found_there p s (still_named p all s.variables is (named functions globals c p accesses.Write clean all fits)) in
        let same = ends_more (λ k t. outline t.variables ≡ outline s.variables) (λ k t. outline t.variables ≡ outline all) ((place_meant around p).at s) (behind (place_meant around p).at (place_stays around stay p) s) (λ k t e. e ∙ is) in
        ends_both (λ k t. outline t.variables ≡ outline all) (λ k t. IsThere (out-Place p).name.bytes k t.variables) ((place_meant around p).at s) same there

    abbrev FieldLaw : Field → Type 0
    FieldLaw x = (verb : Verb) → Clean (field_notes x verb c.known) → (s : State Variables) → outline s.variables ≡ outline all → AtEnd (FieldEnds all) (field_aim around x s)

    field_of : (y : Field-F Expr Field Call Chain Formal Link Operation Place Prefix) → FieldLaw (roll-Field y)
    field_of (Field-F.Text x) = subst FieldLaw (sym (fields.rolls-Text x)) (λ verb clean s is. subst (λ (d : Does Aim). AtEnd (FieldEnds all) (d s)) (sym (equations.aim_of_text around x)) (text_ends all (values.Text (around.text x.bytes)) s is))
    field_of (Field-F.Plain x) = subst FieldLaw (sym (fields.rolls-Plain x)) (λ verb clean s is. subst (λ (d : Does Aim). AtEnd (FieldEnds all) (d s)) (sym (equations.aim_of_plain around x)) (plain_ends all x s is))
    field_of (Field-F.Formal x) = subst FieldLaw (sym (fields.rolls-Formal x)) (λ verb clean s is.
        let target = (out-Formal x).target in
        let own = found_all (formal_faults verb) (out-Formal x).span.start in
        let clear : Clean (own ++ (judged_place target accesses.Write c.known).notes) = subst Clean (rules.of_formal x verb c.known ∙ rules.formal_is x verb c.known) clean in
        subst (λ (d : Does Aim). AtEnd (FieldEnds all) (d s)) (sym (equations.aim_of_formal around x))
        (formal_ends all (out-Place target).name.bytes (place_meant around target).at s (target_ends target (clean_split own (judged_place target accesses.Write c.known).notes clear).1 s is)))

    field_ends : (x : Field) → FieldLaw x
    field_ends x = subst FieldLaw (roll-out-Field x) (field_of (out-Field x))

    fields_there : (verb : Verb) (done : List Aim) (xs : List Field) → Clean (rule.joined (all_noted verb c.known (map field_notes xs))) → (s : State Variables) → outline s.variables ≡ outline all → AreThere done s.variables →
        AtEnd (λ aims t. AreThere aims t.variables) (each_onto done (map (field_aim around) xs) s)
    unfolding each_onto ◌>>=◌ pure
    fields_there verb done [] clean s is h = h
    fields_there verb done (x ∷ xs) clean s is h =
        let two = clean_split (field_notes x verb c.known) (rule.joined (all_noted verb c.known (map field_notes xs))) clean in
        then_ends (FieldEnds all) (λ aims t. AreThere aims t.variables) (field_aim around x s) _ (field_ends x verb two.0 s is)
        (λ a t p. fields_there verb (done ++ a ∷ []) xs two.1 t p.0 (there_append done (a ∷ []) t.variables (all_there done s.variables t.variables (p.0 ∙ sym is) h) p.1))

    pub operation_there : (o : Operation) → Clean (operation_notes o c.known) → (s : State Variables) → outline s.variables ≡ outline all → AtEnd (λ aims t. AreThere aims t.variables) (each (map (field_aim around) (out-Operation o).fields) s)
    operation_there o clean s is =
        let verb = (out-Operation o).verb in
        let parts = all_noted verb c.known (map field_notes (out-Operation o).fields) in
        let noted = found_all (width_faults (length parts)) (out-Operation o).span.start in
        let clear : Clean (noted ++ rule.joined parts) = subst Clean (rules.operation_is o c.known) clean in
        fields_there verb [] (out-Operation o).fields (clean_split noted (rule.joined parts) clear).1 s is tt

-- ---- the laws

-- the variable of a place stands wherever the outline is that of variables that fit
named_there : (xs : List Item) (c : SceneOf xs) (access : Access) (p : Place) → Clean (judged_place p access c.known).notes → (all : Variables) → IsOutlined xs c all → Named p all
named_there xs c access p clean all h = still_named p h.0 all h.2 (named (functions_of xs) (outside xs) c p access clean h.0 h.1)

pub places_are_there : PlacesAreThere
places_are_there xs depth more c access p clean =
    let h = named_there xs c access p clean in (
      λ all so. (h all so).0,
      λ x is s so. index_declared (around xs depth more) (stay xs depth more) p x s (h s.variables so),
      λ s so. found_there (around xs depth more) (stay xs depth more) p s (h s.variables so),
    )

pub reads_are_there : ReadsAreThere
reads_are_there xs depth more c p clean =
    let own : Clean (judged_place p accesses.Read c.known).notes = subst (λ (j : Judged). Clean j.notes) (rules.of_place p c.known) clean in
    (equations.of_place (around xs depth more) p, (places_are_there xs depth more c accesses.Read p own).2)

pub assignments_are_there : AssignmentsAreThere
assignments_are_there xs depth more c context a clean =
    let clear = subst (λ (w : Walked). Clean w.notes) (sentences.of_assign a context c.known) clean in
    let own = (clean_split (judged_place a.place accesses.Write c.known).notes (change_notes c.known a.change) clear).0 in
    let h = named_there xs c accesses.Write a.place own in (
      meant.of_assign (around xs depth more) (size_in (outer xs)) a,
      (places_are_there xs depth more c accesses.Write a.place own).2,
      λ s so. change_there (around xs depth more) (stay xs depth more) a.place a.change s (h s.variables so),
    )

pub formals_are_there : FormalsAreThere
formals_are_there = (
  λ xs depth more c o clean s so. operation_there (around xs depth more) (stay xs depth more) (functions_of xs) (outside xs) c so.0 so.1 o clean s so.2,
  λ name at v more s h. ends_more (λ u t. Same s t) (λ u t. AreThere more t.variables) (store name at v s) (same_store name at v s) (λ u t p. all_there more s.variables t.variables p.0 h),
)

-- ---- scenes behind declarators

nowhere_in_text : Span
nowhere_in_text = record { start = 0; end = 0 }

-- what a declaration does, declarator by declarator
declaration_is : (around : Surroundings) (length_of : Size → ℕ) (x : Declaring) → does around length_of (stmts.Variables x) ≡ meaning.in_order (map (declarator_does around length_of x.type_name) x.declarators)
unfolding declaration_does
declaration_is around length_of x = meant.of_variables around length_of x

-- behind a declaration of these alone
pub declarators_lead : DeclaratorsLead
declarators_lead xs none settled depth more c t first fresh clean =
    let x : Declaring = record { type_name = t; declarators = first; span = nowhere_in_text } in
    let context : Context = record { result = None; is_in_loop = false } in
    let walk = sentences.of_variables x context c.known in
    let stood : (stands (stmts.Variables x)).is_settled ≡ true = ap (λ (s : bodies.Standing). s.is_settled) (settled_forms.of_variables x) in
    let lead = statements_lead xs none settled depth more c context (stmts.Variables x) stood fresh (subst (λ (w : Walked). Clean w.notes) (sym walk) clean) in
    let d = lead.0 in (
      d,
      lead.1,
      lead.2 ∙ ap (λ (w : Walked). w.known) walk,
      lead.3,
      subst (λ (e : Does Exit). Right (λ (q : PlainRequest). Unit {0}) (Fits (outside xs) (c.outer ++ c.inner ∷ [])) (λ e all. Fits (outside xs) (d.outer ++ d.inner ∷ []) all) e) (declaration_is (around xs depth more) (size_in (outer xs)) x) lead.4,
    )
