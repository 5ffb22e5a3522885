-- Calls of functions without faults keep variables at their types, and give values of theirs.
use Rattle.std.proofs.Common.{◌≡◌, ◌∙◌, sym, subst, refl, ℕ, zero, suc, Bool, true, false, List, [], ◌∷◌, length, Option, Some, None}
use Rattle.std.specs.Prelude.{if◌then◌else◌}
use Rattle.std.specs.List.{AllByRecursion}
use Rattle.cl_value.specs.declared.value.Value.{Value}
use Rattle.cl_value.specs.declared.process.Trap.TheVariants.{CallDepth}
use Rattle.cl_value.specs.Plain.{PlainRequest}
use Rattle.cl_ast.specs.declared.tree.TypeName.{TypeName}
use Rattle.cl_ast.specs.declared.tree.TypeName.TheVariants as types
use Rattle.cl_ast.specs.declared.statement.Function.{Function}
use Rattle.cl_ast.specs.declared.statement.Parameter.{Parameter}
use Rattle.cl_model.specs.Doing.{pure, trap, tick, claim, release, variables, set_variables, checked}
use Rattle.cl_listing.specs.Names.{Name, same_name}
use Rattle.cl_meaning.specs.Operators.{converted, zero_of}
use Rattle.cl_meaning.specs.Variables.{Variable, Variables, called_with, back_in}
use Rattle.cl_meaning.specs.Operations.{Does}
use Rattle.cl_meaning.specs.Outer.{frame_cells}
use Rattle.cl_meaning.specs.Statements.{Exit, WentOn, Broke, Continued, Returned, body_does}
use Rattle.cl_meaning.specs.Calls.{parameter, parameters, result_type, result, function_named, Fixed, surroundings, body, run, calls}
use Rattle.cl_types.specs.declared.declared.Declared.TheVariants as declareds
use Rattle.cl_types.specs.Declarations.{Declaration, Known}
use Rattle.cl_types.specs.Statements.{block_walked}
use Rattle.cl_types.specs.Items.{function_context}
use Rattle.cl_types.specs.Found.{block_forms}
use Rattle.cl_types.proofs.Clean.{Clean}
use Rattle.cl_typing.specs.Bodies.{is_settled}
use Rattle.cl_typing.specs.Values.{IsOf}
use Rattle.cl_typing.specs.Standing.{FitsAs, FitsScope, Fits, Sees, Fresh, function_in, Scene}
use Rattle.cl_typing.specs.Requests.{Allows}
use Rattle.cl_typing.specs.Texts.{parameters_declared}
use Rattle.cl_typing.specs.Steps.{Keeps}
use Rattle.cl_typing.proofs.Leading.{right_bind, right_then, right_variables, right_set, right_claim, right_release, keeps_bind, keeps_then, keeps_more, keeps_pure, keeps_trap, keeps_checked, keeps_tick}
use Rattle.cl_typing.proofs.Operating.{converted_is}
use Rattle.cl_typing.proofs.Found.{zero_is}
use Rattle.cl_typing.proofs.Calling.{GivesResult, CallsRight, named_is}
use Rattle.cl_typing.proofs.Statements.{every_block}

-- a function without faults, with what is known at its statements
pub record Fine (R : PlainRequest → Type 0) (text : List ℕ → ℕ) (depth : ℕ) (site : ℕ → ℕ) (functions : List Function) (globals : List Declaration) (f : Function) : Type 0 where
  pub own : function_in functions f.name.bytes ≡ Some f
  pub known : Known
  pub sees : Sees functions globals [] (parameters_declared f.parameters) known
  pub fresh : Fresh (parameters_declared f.parameters) known
  pub settled : is_settled f.body ≡ true
  pub clean : Clean (block_walked f.body (function_context f) known).notes
  pub allowed : Allows text functions depth site R (block_forms f.body known)

named_none : {A : Type 0} (none : A) (functions : List Function) (name : Name) (go : Function → Does A) → function_in functions name ≡ None → function_named none functions name go ≡ pure none
unfolding function_named
named_none none [] name go h = refl
named_none none (g ∷ gs) name go h = by (same_name name g.name.bytes) h (λ e. named_none none gs name go e)
  where
    by : (b : Bool) → (if b then Some g else function_in gs name) ≡ None → (function_in gs name ≡ None → function_named none gs name go ≡ pure none) → (if b then go g else function_named none gs name go) ≡ pure none
    by true e more = absurd cc
    by false e more = more e

-- each of these is the first of its name, if it has the property
pub all_in : (P : Function → Type 0) (functions : List Function) (name : Name) (f : Function) → AllByRecursion P functions → function_in functions name ≡ Some f → P f
all_in P [] name f h is = absurd cc
all_in P (g ∷ gs) name f h is = by (same_name name g.name.bytes) is (λ e. all_in P gs name f h.1 e)
  where
    by : (b : Bool) → (if b then Some g else function_in gs name) ≡ Some f → (function_in gs name ≡ Some f → P f) → P f
    by true e more = let same : g ≡ f = cc in subst P same h.0
    by false e more = more e

module _ (R : PlainRequest → Type 0) (fixed : Fixed) (globals : List Declaration) where
  abbrev pub FineHere : Function → Type 0
  FineHere f = Fine R fixed.text fixed.depth fixed.site fixed.functions globals f

  parameters_keep : (kept : Variables → Type 0) (ps : List Parameter) (vs : List Value) → length ps ≡ length vs → Keeps R kept (FitsScope (parameters_declared ps)) (parameters ps vs)
  unfolding parameters parameter
  parameters_keep kept [] [] same = keeps_pure R kept (FitsScope []) [] tt
  parameters_keep kept [] (v ∷ vs) same = absurd cc
  parameters_keep kept (p ∷ ps) [] same = absurd cc
  parameters_keep kept (p ∷ ps) (v ∷ vs) same =
      let P : Variable → Type 0 = λ x. (x.name ≡ p.name.bytes) × FitsAs (declareds.Scalar p.type_name) x in
      let Q = FitsScope (parameters_declared (p ∷ ps)) in
      keeps_bind R kept P Q (parameter p v) _ (keeps_bind R kept (IsOf p.type_name) P (checked (converted p.type_name v)) _ (keeps_checked R kept (IsOf p.type_name) (converted p.type_name v) (λ w is. converted_is p.type_name v w is))
      (λ w is. keeps_pure R kept P (record { name = p.name.bytes; of = p.type_name; values = w ∷ [] }) (refl, (refl, refl, (is, tt))))) (λ x is.
      keeps_bind R kept (FitsScope (parameters_declared ps)) Q (parameters ps vs) _ (parameters_keep kept ps vs (cc)) (λ xs are. keeps_pure R kept Q (x ∷ xs) (is.0, is.1, are)))

  result_keeps : (kept : Variables → Type 0) (t : TypeName) (e : Exit) → Keeps R kept (IsOf t) (result t e)
  unfolding result
  result_keeps kept t (Returned (Some v)) = keeps_checked R kept (IsOf t) (converted t v) (λ w is. converted_is t v w is)
  result_keeps kept t (Returned None) = keeps_pure R kept (IsOf t) (zero_of t) (zero_is t)
  result_keeps kept t WentOn = keeps_pure R kept (IsOf t) (zero_of t) (zero_is t)
  result_keeps kept t Broke = keeps_pure R kept (IsOf t) (zero_of t) (zero_is t)
  result_keeps kept t Continued = keeps_pure R kept (IsOf t) (zero_of t) (zero_is t)

  -- the statements of a function run in a scope of its parameters, and the scopes of its caller stand again behind them
  body_keeps : (call : Name → List Value → Does Value) → CallsRight R fixed.functions globals call → (f : Function) → FineHere f → (given : List Variable) → FitsScope (parameters_declared f.parameters) given → (locals : List (List Declaration)) →
      Keeps R (Fits globals locals) (IsOf (result_type f)) (body fixed call f given)
  unfolding body
  body_keeps call right f fine given fits locals =
      let K = Fits globals locals in
      let P : Value → Variables → Type 0 = λ v all. K all × IsOf (result_type f) v in
      let c : Scene fixed.functions globals = record { outer = []; inner = parameters_declared f.parameters; known = fine.known; sees = fine.sees } in
      let inner : Variables → Type 0 = Fits globals (parameters_declared f.parameters ∷ []) in
      let some : Exit → Variables → Type 0 = λ e all. (ds : List Declaration) × Fits globals (ds ∷ []) all in
      right_bind R K (λ b all. K b) P variables _ (right_variables R K (λ b all. K b) (λ v w. w)) (λ b.
      right_then R (λ all. K b) (λ u all. inner all × K b) P (set_variables (called_with given b)) _ (right_set R (λ all. K b) (λ u all. inner all × K b) (called_with given b) (λ all w. (record { outside = w.outside; inside = (fits, tt) }, w))) (λ u s w0.
      let kb = w0.1 in
      right_bind R inner some P (body_does (surroundings fixed call) fixed.length_of f.body) _
      (every_block R (surroundings fixed call) fixed.functions globals right (λ name vs. refl) fixed.length_of f.body c (function_context f) fine.settled fine.fresh fine.clean fine.allowed) (λ e.
      right_bind R (some e) (λ a all. some e a) P variables _ (right_variables R (some e) (λ a all. some e a) (λ v w. w)) (λ a.
      right_then R (λ all. some e a) (λ u all. K all) P (set_variables (back_in b.locals a)) (result (result_type f) e) (right_set R (λ all. some e a) (λ u all. K all) (back_in b.locals a) (λ all w. record { outside = w.1.outside; inside = kb.inside }))
      (λ u. result_keeps K (result_type f) e))) s w0.0))

  pub run_keeps : (call : Name → List Value → Does Value) → CallsRight R fixed.functions globals call → (f : Function) → FineHere f → (given : List Variable) → FitsScope (parameters_declared f.parameters) given → (locals : List (List Declaration)) →
      Keeps R (Fits globals locals) (IsOf (result_type f)) (run fixed call f given)
  unfolding run
  run_keeps call right f fine given fits locals =
      let K = Fits globals locals in
      let n = frame_cells fixed.length_of f in
      keeps_then R K (λ u. Unit {0}) (IsOf (result_type f)) (claim n) _ (right_claim R K (λ u all. K all × Unit {0}) n (λ v w. (w, tt)))
      (keeps_bind R K (IsOf (result_type f)) (IsOf (result_type f)) (body fixed call f given) _ (body_keeps call right f fine given fits locals)
      (λ v is. keeps_then R K (λ u. Unit {0}) (IsOf (result_type f)) (release n) (pure v) (right_release R K (λ u all. K all × Unit {0}) n (λ x w. (w, tt))) (keeps_pure R K (IsOf (result_type f)) v is)))

  -- ---- every call

  module _ (fine : (name : Name) (f : Function) → function_in fixed.functions name ≡ Some f → FineHere f) where
    named_keeps : (name : Name) (locals : List (List Declaration)) (go : Function → Does Value) → ((f : Function) → function_in fixed.functions name ≡ Some f → Keeps R (Fits globals locals) (IsOf (result_type f)) (go f)) →
        Keeps R (Fits globals locals) (GivesResult fixed.functions name) (function_named (zero_of types.Int) fixed.functions name go)
    named_keeps name locals go h = by (function_in fixed.functions name) refl
      where
        K : Variables → Type 0
        K = Fits globals locals

        none : Option Function → Value → Type 0
        none o v = (f : Function) → o ≡ Some f → IsOf (result_type f) v

        only : (f g : Function) (v : Value) → Some f ≡ Some g → IsOf (result_type f) v → IsOf (result_type g) v
        only f g v e is = let same : f ≡ g = cc in subst (λ h. IsOf (result_type h) v) same is

        by : (o : Option Function) → function_in fixed.functions name ≡ o → Keeps R K (GivesResult fixed.functions name) (function_named (zero_of types.Int) fixed.functions name go)
        by None is = subst (Keeps R K (GivesResult fixed.functions name)) (sym (named_none (zero_of types.Int) fixed.functions name go is))
            (keeps_pure R K (GivesResult fixed.functions name) (zero_of types.Int) (λ f e. absurd (let no : None ≡ Some f = sym is ∙ e in cc)))
        by (Some f) is = subst (Keeps R K (GivesResult fixed.functions name)) (sym (named_is (zero_of types.Int) fixed.functions name f go is))
            (keeps_more R K (IsOf (result_type f)) (GivesResult fixed.functions name) (go f) (h f is) (λ v t g e. only f g v (sym is ∙ e) t))

    pub calls_keep : (more : ℕ) → CallsRight R fixed.functions globals (calls fixed more)
    unfolding calls
    calls_keep zero name vs locals takes = named_keeps name locals _ (λ f is.
        let K = Fits globals locals in
        keeps_bind R K (FitsScope (parameters_declared f.parameters)) (IsOf (result_type f)) (parameters f.parameters vs) _ (parameters_keep K f.parameters vs (takes f is)) (λ given fits.
        keeps_then R K (λ u. Unit {0}) (IsOf (result_type f)) tick (trap CallDepth) (keeps_tick R K (λ u. Unit {0}) tt) (keeps_trap R K (IsOf (result_type f)) CallDepth)))
    calls_keep (suc more) name vs locals takes = named_keeps name locals _ (λ f is.
        let K = Fits globals locals in
        keeps_bind R K (FitsScope (parameters_declared f.parameters)) (IsOf (result_type f)) (parameters f.parameters vs) _ (parameters_keep K f.parameters vs (takes f is)) (λ given fits.
        keeps_then R K (λ u. Unit {0}) (IsOf (result_type f)) tick _ (keeps_tick R K (λ u. Unit {0}) tt) (run_keeps (λ other others. calls fixed more other others) (calls_keep more) f (fine name f is) given fits locals)))
