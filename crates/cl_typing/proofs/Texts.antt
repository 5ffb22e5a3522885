-- In a text without faults what is known at each function stands, and each function is fine.
use Rattle.std.proofs.Common.{◌≡◌, ◌∙◌, ap, sym, subst, refl, ℕ, Bool, true, false, List, [], ◌∷◌, ◌++◌, map, Option, Some, None, is_some, append_assoc}
use Rattle.std.proofs.lemmas.List.{append-nil}
use Rattle.std.specs.Prelude.{if◌then◌else◌}
use Rattle.std.specs.List.{AllByRecursion}
use Rattle.std.specs.Cmp.Lexicographic.{bytes_decides}
use Rattle.cl_value.specs.Plain.{PlainRequest}
use Rattle.cl_ast.specs.declared.tree.TypeName.{TypeName}
use Rattle.cl_ast.specs.declared.statement.Form.{Form}
use Rattle.cl_ast.specs.declared.statement.Form.TheVariants as forms
use Rattle.cl_ast.specs.declared.statement.Declarator.{Declarator}
use Rattle.cl_ast.specs.declared.statement.Parameter.{Parameter}
use Rattle.cl_ast.specs.declared.statement.Function.{Function}
use Rattle.cl_ast.specs.declared.statement.Item.{Item}
use Rattle.cl_ast.specs.declared.statement.Item.TheVariants as items
use Rattle.cl_listing.specs.Names.{Name, same_name}
use Rattle.cl_meaning.specs.Outer.{functions_of}
use Rattle.cl_types.specs.declared.declared.Declared.{Declared}
use Rattle.cl_types.specs.declared.declared.Declared.TheVariants as declareds
use Rattle.cl_types.specs.declared.declared.FunctionType.{FunctionType}
use Rattle.cl_types.specs.declared.context.Reach.{Reach}
use Rattle.cl_types.specs.declared.context.Reach.TheVariants as reaches
use Rattle.cl_types.specs.Declarations.{Declaration, Known, declaration_in, what_of, look_up, is_declared_here, declare, declared_again, enter}
use Rattle.cl_types.specs.Statements.{in_order, form_notes, form_declared, declarator_walked, block_walked}
use Rattle.cl_types.specs.Items.{function_type, define_number, parameter_walked, parameters_walked, function_context, body_walked, function_known, function_declared, with_function, with_functions, items_walked, known_first}
use Rattle.cl_types.specs.Findings.{Forms}
use Rattle.cl_types.specs.Found.{onward, block_forms, item_forms, item_behind}
use Rattle.cl_types.proofs.Clean.{Clean, clean_split}
use Rattle.cl_typing.specs.Bodies.{is_settled, are_settled}
use Rattle.cl_typing.specs.Standing.{first_in, IsVariable, HasFunction, Sees, Fresh, function_in}
use Rattle.cl_typing.specs.Requests.{Allows}
use Rattle.cl_typing.specs.Laws.{known_inside}
use Rattle.cl_typing.specs.Texts.{variables_declared, outside, parameters_declared}
use Rattle.cl_typing.proofs.Expressions.{all_split}
use Rattle.cl_typing.proofs.Declaring.{first_append, not_again, declares_new, variable_seen, variable_fresh, function_seen, function_fresh, declared_now}
use Rattle.cl_typing.proofs.Settled.{both_true}
use Rattle.cl_typing.proofs.Functions.{Fine}

-- ---- functions by their names

or_function : Option Function → Option Function → Option Function
or_function None o = o
or_function (Some f) o = Some f

function_append : (fs gs : List Function) (name : Name) → function_in (fs ++ gs) name ≡ or_function (function_in fs name) (function_in gs name)
unfolding or_function
function_append [] gs name = refl
function_append (f ∷ fs) gs name = by (same_name name f.name.bytes) (function_append fs gs name)
  where
    by : (b : Bool) → function_in (fs ++ gs) name ≡ or_function (function_in fs name) (function_in gs name) →
        (if b then Some f else function_in (fs ++ gs) name) ≡ or_function (if b then Some f else function_in fs name) (function_in gs name)
    by true h = refl
    by false h = h

-- it comes first where none before it has its name
own_function : (before : List Function) (f : Function) (after : List Function) → function_in before f.name.bytes ≡ None → function_in (before ++ f ∷ after) f.name.bytes ≡ Some f
unfolding or_function
own_function before f after h =
    function_append before (f ∷ after) f.name.bytes ∙ (ap (λ o. or_function o (function_in (f ∷ after) f.name.bytes)) h ∙ ap (λ b. if b then Some f else function_in after f.name.bytes) ((bytes_decides f.name.bytes f.name.bytes).1 refl))

-- ---- functions are known everywhere

-- how a function is known
abbrev as_known : Option Function → Option Declared
as_known None = None
as_known (Some f) = Some (declareds.Function (function_type f))

abbrev Lists : List Function → List Declaration → Type 0
Lists functions ds = (name : Name) → what_of (declaration_in ds name) ≡ as_known (function_in functions name)

declaration_append : (ds : List Declaration) (d : Declaration) (name : Name) → what_of (declaration_in (ds ++ d ∷ []) name) ≡ what_of (if is_some (declaration_in ds name) then declaration_in ds name else (if same_name name d.name then Some d else None))
declaration_append [] d name = refl
declaration_append (e ∷ es) d name = by (same_name name e.name) (declaration_append es d name)
  where
    by : (b : Bool) → what_of (declaration_in (es ++ d ∷ []) name) ≡ what_of (if is_some (declaration_in es name) then declaration_in es name else (if same_name name d.name then Some d else None)) →
        what_of (if b then Some e else declaration_in (es ++ d ∷ []) name) ≡ what_of (if is_some (if b then Some e else declaration_in es name) then (if b then Some e else declaration_in es name) else (if same_name name d.name then Some d else None))
    by true h = refl
    by false h = h

lists_more : (functions : List Function) (ds : List Declaration) (f : Function) → Lists functions ds → Lists (functions ++ f ∷ []) (with_function f ds)
unfolding or_function
lists_more functions ds f h name = by (is_some (declaration_in ds f.name.bytes)) refl
  where
    last : function_in (functions ++ f ∷ []) name ≡ or_function (function_in functions name) (if same_name name f.name.bytes then Some f else None)
    last = function_append functions (f ∷ []) name

    -- a name that is there already
    there : (o : Option Function) → what_of (declaration_in ds name) ≡ as_known o → (b : Bool) → same_name name f.name.bytes ≡ b → is_some (declaration_in ds f.name.bytes) ≡ true →
        what_of (declaration_in ds name) ≡ as_known (or_function o (if b then Some f else None))
    there (Some g) e b same is = e
    there None e false same is = e
    there None e true same is = absurd (none (declaration_in ds f.name.bytes) (subst (λ n. what_of (declaration_in ds n) ≡ None) ((bytes_decides name f.name.bytes).0 same) e) is)
      where
        none : (o : Option Declaration) → what_of o ≡ None → is_some o ≡ true → ⊥
        none None e is = cc
        none (Some d) e is = cc

    new : (o : Option Declaration) (p : Option Function) (b : Bool) → what_of o ≡ as_known p → what_of (if is_some o then o else (if b then Some (function_declared f) else None)) ≡ as_known (or_function p (if b then Some f else None))
    new None None true e = refl
    new None None false e = refl
    new None (Some g) b e = absurd cc
    new (Some d) None b e = absurd cc
    new (Some d) (Some g) b e = e

    by : (b : Bool) → is_some (declaration_in ds f.name.bytes) ≡ b → what_of (declaration_in (if b then ds else ds ++ function_declared f ∷ []) name) ≡ as_known (function_in (functions ++ f ∷ []) name)
    by true is = there (function_in functions name) (h name) (same_name name f.name.bytes) refl is ∙ sym (ap as_known last)
    by false is = declaration_append ds (function_declared f) name ∙ (new (declaration_in ds name) (function_in functions name) (same_name name f.name.bytes) (h name) ∙ sym (ap as_known last))

lists_all : (xs : List Item) (functions : List Function) (ds : List Declaration) → Lists functions ds → Lists (functions ++ functions_of xs) (with_functions xs ds)
lists_all [] functions ds h = subst (λ fs. Lists fs ds) (sym (append-nil functions)) h
lists_all (items.Function f ∷ xs) functions ds h = subst (λ fs. Lists fs (with_functions xs (with_function f ds))) (append_assoc functions (f ∷ []) (functions_of xs)) (lists_all xs (functions ++ f ∷ []) (with_function f ds) (lists_more functions ds f h))
lists_all (items.Define d ∷ xs) functions ds h = lists_all xs functions ds h
lists_all (items.Variables v ∷ xs) functions ds h = lists_all xs functions ds h

-- where a text begins its functions are known
pub first_seen : (xs : List Item) → Sees (functions_of xs) [] [] [] (known_first xs)
first_seen xs = record { stands = λ name what is v. absurd (none (function_in (functions_of xs) name) what (sym (listed name) ∙ is) v); calls = λ name t is. has name t (function_in (functions_of xs) name) refl (sym (listed name) ∙ is) }
  where
    listed : (name : Name) → look_up name (known_first xs) ≡ as_known (function_in (functions_of xs) name)
    listed name = lists_all xs [] [] (λ n. refl) name

    none : (o : Option Function) (what : Declared) → as_known o ≡ Some what → IsVariable what → ⊥
    none None what e v = cc
    none (Some f) (declareds.Scalar t) e v = cc
    none (Some f) (declareds.Array t) e v = cc
    none (Some f) (declareds.Constant n) e v = cc
    none (Some f) (declareds.Function t) e v = v

    has : (name : Name) (t : FunctionType) (o : Option Function) → function_in (functions_of xs) name ≡ o → as_known o ≡ Some (declareds.Function t) → HasFunction (functions_of xs) name t
    has name t None is e = absurd cc
    has name t (Some f) is e = (f, is, cc)

-- ---- behind declarations

module _ (functions : List Function) where
  -- those that were declared: what is known stands, and no name stands that isn't declared, nor a function of it
  pub record Seen (globals : List Declaration) (inner : List Declaration) (earlier : List Function) (known : Known) : Type 0 where
    pub sees : Sees functions globals [] inner known
    pub fresh : Fresh inner known
    pub unseen : (name : Name) → is_declared_here name known ≡ false → function_in earlier name ≡ None

  -- a variable or a constant more
  variable_more : (globals inner : List Declaration) (earlier : List Function) (known : Known) (name : Name) (what : Declared) → Seen globals inner earlier known → is_declared_here name known ≡ false → IsVariable what →
      Seen globals (inner ++ record { name = name; what = what } ∷ []) earlier (declare name what known)
  variable_more globals inner earlier known name what s isnt v = subst (Seen globals (inner ++ record { name = name; what = what } ∷ []) earlier) (sym (declares_new name what known isnt)) (record {
    sees = variable_seen functions globals [] inner known s.sees name what s.fresh isnt v;
    fresh = variable_fresh functions globals [] inner known s.sees name what s.fresh;
    unseen = λ other h. s.unseen other (declared_now functions globals [] inner known s.sees name what other h).1;
  })

  form_variable : (t : TypeName) (x : Form) → IsVariable (form_declared t x)
  form_variable t forms.Bare = tt
  form_variable t (forms.Array size) = tt
  form_variable t (forms.Value x) = tt

  variables_more : (reach : Reach) (t : TypeName) (ds : List Declarator) (globals inner : List Declaration) (earlier : List Function) (known : Known) → Seen globals inner earlier known → Clean (in_order (map (declarator_walked reach t) ds) known).notes →
      Seen globals (inner ++ variables_declared t ds) earlier (in_order (map (declarator_walked reach t) ds) known).known
  variables_more reach t [] globals inner earlier known s clean = subst (λ ds. Seen globals ds earlier known) (sym (append-nil inner)) s
  variables_more reach t (d ∷ ds) globals inner earlier known s clean =
      let what = form_declared t d.form in
      let new : Declaration = record { name = d.name.bytes; what = what } in
      let next = declare d.name.bytes what known in
      let one = clean_split (declared_again d.name known ++ form_notes reach t known d.form) (in_order (map (declarator_walked reach t) ds) next).notes clean in
      let isnt = not_again d.name known (clean_split (declared_again d.name known) (form_notes reach t known d.form) one.0).0 in
      subst (λ ds'. Seen globals ds' earlier (in_order (map (declarator_walked reach t) ds) next).known) (append_assoc inner (new ∷ []) (variables_declared t ds))
      (variables_more reach t ds globals (inner ++ new ∷ []) earlier next (variable_more globals inner earlier known d.name.bytes what s isnt (form_variable t d.form)) one.1)

  parameters_more : (ps : List Parameter) (globals inner : List Declaration) (earlier : List Function) (known : Known) → Seen globals inner earlier known → Clean (parameters_walked ps known).notes →
      Seen globals (inner ++ parameters_declared ps) earlier (parameters_walked ps known).known
  parameters_more [] globals inner earlier known s clean = subst (λ ds. Seen globals ds earlier known) (sym (append-nil inner)) s
  parameters_more (p ∷ ps) globals inner earlier known s clean =
      let what = declareds.Scalar p.type_name in
      let new : Declaration = record { name = p.name.bytes; what = what } in
      let next = declare p.name.bytes what known in
      let one = clean_split (declared_again p.name known) (in_order (map parameter_walked ps) next).notes clean in
      let isnt = not_again p.name known one.0 in
      subst (λ ds. Seen globals ds earlier (parameters_walked ps next).known) (append_assoc inner (new ∷ []) (parameters_declared ps))
      (parameters_more ps globals (inner ++ new ∷ []) earlier next (variable_more globals inner earlier known p.name.bytes what s isnt tt) one.1)

  -- a function more
  function_more : (inner : List Declaration) (earlier : List Function) (known : Known) (f : Function) → Seen [] inner earlier known → is_declared_here f.name.bytes known ≡ false → function_in functions f.name.bytes ≡ Some f →
      Seen [] inner (earlier ++ f ∷ []) (function_known f known)
  unfolding or_function
  function_more inner earlier known f s isnt own =
      let what = declareds.Function (function_type f) in
      let name = f.name.bytes in
      subst (Seen [] inner (earlier ++ f ∷ [])) (sym (declares_new name what known isnt)) (record {
        sees = function_seen functions [] [] inner known s.sees name what (function_type f) refl (f, own, refl);
        fresh = function_fresh functions [] [] inner known s.sees name what s.fresh;
        unseen = λ other h.
            let r = declared_now functions [] [] inner known s.sees name what other h in
            function_append earlier (f ∷ []) other ∙ (ap (λ o. or_function o (function_in (f ∷ []) other)) (s.unseen other r.1) ∙ ap (λ b. if b then Some f else None) r.0);
      })

  -- ---- the statements of a function

  first_kept : (name : Name) (what : Declared) (ds : List Declaration) (o : Option Declared) → first_in name ds None ≡ Some what → first_in name ds o ≡ Some what
  first_kept name what [] o h = absurd cc
  first_kept name what (d ∷ ds) o h = by (same_name name d.name) h (λ e. first_kept name what ds o e)
    where
      by : (b : Bool) → (if b then Some d.what else first_in name ds None) ≡ Some what → (first_in name ds None ≡ Some what → first_in name ds o ≡ Some what) → (if b then Some d.what else first_in name ds o) ≡ Some what
      by true e more = e
      by false e more = more e

  -- what was declared outside so far stands among all that is declared there
  within : (globals before after : List Declaration) (earlier : List Function) (known : Known) → globals ≡ before ++ after → Seen [] before earlier known → Seen globals [] [] (enter known)
  within globals before after earlier known is s = record {
    sees = record {
      stands = λ name what e v. subst (λ ds. first_in name ds None ≡ Some what) (sym is) (first_append name before after None ∙ first_kept name what before (first_in name after None) (s.sees.stands name what e v));
      calls = λ name t e. s.sees.calls name t e;
    };
    fresh = λ name h. refl;
    unseen = λ name h. refl;
  }

  module _ (R : PlainRequest → Type 0) (text : List ℕ → ℕ) (depth : ℕ) (site : ℕ → ℕ) (globals : List Declaration) where
    abbrev FineHere : Function → Type 0
    FineHere f = Fine R text depth site functions globals f

    abbrev Allowed : Forms → Type 0
    Allowed fs = Allows text functions depth site R fs

    -- with what is known at its statements, where this is known before it
    abbrev pub FineAt : Function → Known → Type 0
    FineAt f known = (fine : FineHere f) × (fine.known ≡ known_inside f known)

    abbrev pub EachFine : List Item → Known → Type 0
    EachFine [] known = Unit {0}
    EachFine (items.Define d ∷ xs) known = EachFine xs (item_behind (items.Define d) known)
    EachFine (items.Variables v ∷ xs) known = EachFine xs (item_behind (items.Variables v) known)
    EachFine (items.Function f ∷ xs) known = FineAt f known × EachFine xs (item_behind (items.Function f) known)

    function_fine : (before after : List Declaration) (earlier : List Function) (known : Known) (f : Function) → globals ≡ before ++ after → Seen [] before earlier (function_known f known) → function_in functions f.name.bytes ≡ Some f →
        is_settled f.body ≡ true → Clean (body_walked f (enter (function_known f known))).notes → Allowed (block_forms f.body (known_inside f known)) → FineAt f known
    function_fine before after earlier known f is s own ok clean allowed =
        let inner = enter (function_known f known) in
        let two = clean_split (parameters_walked f.parameters inner).notes (block_walked f.body (function_context f) (parameters_walked f.parameters inner).known).notes clean in
        let seen = parameters_more f.parameters globals [] [] inner (within globals before after earlier (function_known f known) is s) two.0 in
        (record { own = own; known = (parameters_walked f.parameters inner).known; sees = seen.sees; fresh = seen.fresh; settled = ok; clean = two.1; allowed = allowed }, refl)

    pub items_fine : (xs : List Item) (before : List Declaration) (earlier : List Function) (known : Known) → Seen [] before earlier known → functions ≡ earlier ++ functions_of xs → globals ≡ before ++ outside xs → are_settled xs ≡ true →
        Clean (items_walked xs known).notes → Allowed (onward item_forms item_behind xs known) → EachFine xs known
    items_fine [] before earlier known s hf hg ok clean allowed = tt
    items_fine (items.Define d ∷ xs) before earlier known s hf hg ok clean allowed =
        let what = declareds.Constant (define_number d) in
        let next = declare d.name.bytes what known in
        let new : Declaration = record { name = d.name.bytes; what = what } in
        let two = clean_split (declared_again d.name known) (items_walked xs next).notes clean in
        items_fine xs (before ++ new ∷ []) earlier next (variable_more [] before earlier known d.name.bytes what s (not_again d.name known two.0) tt) hf (hg ∙ sym (append_assoc before (new ∷ []) (outside xs))) ok two.1 allowed
    items_fine (items.Variables v ∷ xs) before earlier known s hf hg ok clean allowed =
        let next = item_behind (items.Variables v) known in
        let more = variables_declared v.type_name v.declarators in
        let two = clean_split (in_order (map (declarator_walked reaches.Global v.type_name) v.declarators) known).notes (items_walked xs next).notes clean in
        let fs = all_split _ (item_forms (items.Variables v) known) (onward item_forms item_behind xs next) allowed in
        items_fine xs (before ++ more) earlier next (variables_more reaches.Global v.type_name v.declarators [] before earlier known s two.0) hf (hg ∙ sym (append_assoc before more (outside xs))) ok two.1 fs.1
    items_fine (items.Function f ∷ xs) before earlier known s hf hg ok clean allowed =
        let next = function_known f known in
        let inner = (body_walked f (enter next)).notes in
        let two = clean_split (declared_again f.name known ++ inner) (items_walked xs next).notes clean in
        let own_notes = clean_split (declared_again f.name known) inner two.0 in
        let isnt = not_again f.name known own_notes.0 in
        let own : function_in functions f.name.bytes ≡ Some f = ap (λ fs. function_in fs f.name.bytes) hf ∙ own_function earlier f (functions_of xs) (s.unseen f.name.bytes isnt) in
        let seen = function_more before earlier known f s isnt own in
        let fs = all_split _ (item_forms (items.Function f) known) (onward item_forms item_behind xs next) allowed in
        let stood = both_true (is_settled f.body) (are_settled xs) ok in (
          function_fine before (outside xs) (earlier ++ f ∷ []) known f hg seen own stood.0 own_notes.1 fs.0,
          items_fine xs before (earlier ++ f ∷ []) next seen (hf ∙ sym (append_assoc earlier (f ∷ []) (functions_of xs))) hg stood.1 two.1 fs.1,
        )

    -- so is each function
    pub all_are_fine : (xs : List Item) (known : Known) → EachFine xs known → AllByRecursion FineHere (functions_of xs)
    all_are_fine [] known h = tt
    all_are_fine (items.Define d ∷ xs) known h = all_are_fine xs (item_behind (items.Define d) known) h
    all_are_fine (items.Variables v ∷ xs) known h = all_are_fine xs (item_behind (items.Variables v) known) h
    all_are_fine (items.Function f ∷ xs) known h = (h.0.0, all_are_fine xs (item_behind (items.Function f) known) h.1)

    -- and one behind these items
    pub fine_behind : (before : List Item) (f : Function) (after : List Item) (known : Known) → EachFine (before ++ items.Function f ∷ after) known → FineAt f (items_walked before known).known
    fine_behind [] f after known h = h.0
    fine_behind (items.Define d ∷ xs) f after known h = fine_behind xs f after (item_behind (items.Define d) known) h
    fine_behind (items.Variables v ∷ xs) f after known h = fine_behind xs f after (item_behind (items.Variables v) known) h
    fine_behind (items.Function g ∷ xs) f after known h = fine_behind xs f after (item_behind (items.Function g) known) h.1
