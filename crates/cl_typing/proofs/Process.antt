-- A process of a text without faults, which begins as it fits: each request is one of the text, and what it gives is of the right types.
use Rattle.std.proofs.Common.{◌≡◌, ◌∙◌, ap, sym, subst, refl, ℕ, suc, Bool, true, false, List, [], ◌∷◌, ◌++◌, length, Option, Some, None, inl, inr}
use Rattle.std.specs.Prelude.{slice_get, if◌then◌else◌, pos}
use Rattle.std.specs.List.{AllByRecursion}
use Rattle.std.specs.Cmp.Lexicographic.{bytes_decides}
use Rattle.cl_value.specs.declared.value.Value.{Value}
use Rattle.cl_value.specs.declared.value.Value.TheVariants.{Int}
use Rattle.cl_value.specs.Plain.{PlainRequest, PlainReply, Eval, PlainPart, Ready, Call, PlainStart, Main, Lives}
use Rattle.cl_value.specs.Acts.{fits}
use Rattle.cl_ast.specs.declared.tree.TypeName.{TypeName}
use Rattle.cl_ast.specs.declared.tree.Verb.{Verb}
use Rattle.cl_ast.specs.declared.tree.Verb.TheVariants as verbs
use Rattle.cl_ast.specs.declared.tree.Field.{Field}
use Rattle.cl_ast.specs.declared.tree.Operation.{out-Operation}
use Rattle.cl_ast.specs.declared.statement.Parameter.{Parameter}
use Rattle.cl_ast.specs.declared.statement.Function.{Function}
use Rattle.cl_ast.specs.declared.statement.Item.{Item}
use Rattle.cl_ast.specs.declared.statement.Item.TheVariants as items
use Rattle.cl_model.specs.Demand.{Outcome, Wants, Finishes, Traps, Misfit}
use Rattle.cl_model.specs.Machine.{depth_of}
use Rattle.cl_model.specs.Doing.{Steps, Gives, Prints, Asks, Stops, State, claim, demand_of}
use Rattle.cl_listing.specs.Names.{same_name}
use Rattle.cl_listing.specs.Listing.{in_items, site_at, texts_of, text_number}
use Rattle.cl_meaning.specs.Variables.{Variables}
use Rattle.cl_meaning.specs.Operations.{Does}
use Rattle.cl_meaning.specs.Outer.{functions_of, outer, size_in}
use Rattle.cl_meaning.specs.Expressions.{value}
use Rattle.cl_meaning.specs.Calls.{result_type, function_named, calls, run}
use Rattle.cl_meaning.specs.Process.{fixed, begun, cells_of_globals, main, called_at, part_does, parts_do, live, process}
use Rattle.cl_types.specs.declared.fault.TypeKind.TheVariants as kinds
use Rattle.cl_types.specs.Notes.{found}
use Rattle.cl_types.specs.Expressions.{judged, constant_of}
use Rattle.cl_types.specs.Fields.{expr_forms}
use Rattle.cl_types.specs.Items.{main_name, is_empty, has_main, items_walked, known_first}
use Rattle.cl_types.specs.Unit.{main_notes, faults}
use Rattle.cl_types.specs.Findings.{Finding, Forms}
use Rattle.cl_types.specs.Findings as findings_of
use Rattle.cl_types.specs.Found.{known_behind, stmt_forms, findings}
use Rattle.cl_types.specs.EachTyped.{IsFound}
use Rattle.cl_types.proofs.Welltyped.{every_expr as judged_well}
use Rattle.cl_types.proofs.Clean.{Clean, clean_split, clean_unit}
use Rattle.cl_typing.specs.Bodies.{are_settled}
use Rattle.cl_typing.specs.Values.{IsOf, IsOfFound, IsFoundNumber, ValueIs}
use Rattle.cl_typing.specs.Standing.{FitsScope, Fits, function_in}
use Rattle.cl_typing.specs.Requests.{AreArguments, IsShallow, Beside, PartSuits, AskSuits, Allows}
use Rattle.cl_typing.specs.Texts.{outside, parameters_declared, PartFits, StartFits, Becomes, Become, EndFits, AsksAt, IsRequestOf, OutcomeFits}
use Rattle.cl_typing.specs.Laws.{around, FunctionsHaveScenes, StatementsLead, ScopesAreEntered, ValuesAreTyped, StatementsKeep, DemandsFit, EvalsAreShallow, EvalsFit}
use Rattle.cl_typing.specs.Steps.{Leads, Keeps}
use Rattle.cl_typing.proofs.Leading.{leads_more, right_claim, keeps_bind, keeps_then, keeps_more, keeps_pure}
use Rattle.cl_typing.proofs.Calling.{GivesResult, Takes, CallsRight, named_is}
use Rattle.cl_typing.proofs.Expressions.{every_expr}
use Rattle.cl_typing.proofs.Declaring.{inside_sees, entered_sees, entered_fresh}
use Rattle.cl_typing.proofs.Statements.{same_known, every_stmt}
use Rattle.cl_typing.proofs.Functions.{Fine, all_in, run_keeps, calls_keep}
use Rattle.cl_typing.proofs.Outside.{outer_fits}
use Rattle.cl_typing.proofs.Texts.{first_seen, EachFine, items_fine, all_are_fine, fine_behind}

-- ---- where the program begins

not_none : (xs : List Item) → Clean (main_notes xs) → has_main xs ≡ true
not_none xs h = by (has_main xs) h
  where
    by : (b : Bool) → Clean (if b then [] else found kinds.NoMain 0 ∷ []) → b ≡ true
    by true h = refl
    by false h = absurd h

-- the function that is called `real_main`, which takes nothing
abbrev pub Begins : List Function → Type 0
Begins functions = (f : Function) × (function_in functions main_name ≡ Some f) × (f.parameters ≡ [])

main_begins : (functions : List Function) (xs : List Item) → has_main xs ≡ true → AllByRecursion (λ (f : Function). function_in functions f.name.bytes ≡ Some f) (functions_of xs) → Begins functions
main_begins functions [] h own = absurd cc
main_begins functions (items.Define d ∷ xs) h own = main_begins functions xs h own
main_begins functions (items.Variables v ∷ xs) h own = main_begins functions xs h own
main_begins functions (items.Function f ∷ xs) h own = by (same_name f.name.bytes main_name) refl (is_empty f.parameters) refl h (λ e. main_begins functions xs e own.1)
  where
    empty : (ps : List Parameter) → is_empty ps ≡ true → ps ≡ []
    empty [] e = refl
    empty (p ∷ ps) e = absurd cc

    by : (b : Bool) → same_name f.name.bytes main_name ≡ b → (c : Bool) → is_empty f.parameters ≡ c → (if (if b then c else false) then true else has_main xs) ≡ true → (has_main xs ≡ true → Begins functions) → Begins functions
    by true same true none e more = (f, subst (λ n. function_in functions n ≡ Some f) ((bytes_decides f.name.bytes main_name).0 same) own.0, empty f.parameters none)
    by true same false none e more = more e
    by false same c none e more = more e

-- ---- the functions of a text without faults

module _ (R : PlainRequest → Type 0) (xs : List Item) (depth : ℕ) where
  abbrev text : List ℕ → ℕ
  text bytes = text_number bytes (texts_of xs)

  abbrev site : ℕ → ℕ
  site place = site_at place (in_items xs)

  abbrev FineHere : Function → Type 0
  FineHere f = Fine R text depth site (functions_of xs) (outside xs) f

  abbrev K : Variables → Type 0
  K all = Fits (outside xs) [] all

  each_fine : faults xs ≡ [] → are_settled xs ≡ true → Allows text (functions_of xs) depth site R (findings xs) → EachFine (functions_of xs) R text depth site (outside xs) xs (known_first xs)
  each_fine none settled allowed = items_fine (functions_of xs) R text depth site (outside xs) xs [] [] (known_first xs)
      (record { sees = first_seen xs; fresh = λ name h. refl; unseen = λ name h. refl }) refl refl settled (clean_split (main_notes xs) (items_walked xs (known_first xs)).notes (clean_unit xs none)).1 allowed

  all_fine : faults xs ≡ [] → are_settled xs ≡ true → Allows text (functions_of xs) depth site R (findings xs) → AllByRecursion FineHere (functions_of xs)
  all_fine none settled allowed = all_are_fine (functions_of xs) R text depth site (outside xs) xs (known_first xs) (each_fine none settled allowed)

  owns : (fs : List Function) → AllByRecursion FineHere fs → AllByRecursion (λ (f : Function). function_in (functions_of xs) f.name.bytes ≡ Some f) fs
  owns [] h = tt
  owns (f ∷ fs) h = (h.0.own, owns fs h.1)

  begins_main : faults xs ≡ [] → AllByRecursion FineHere (functions_of xs) → Begins (functions_of xs)
  begins_main none fine = main_begins (functions_of xs) xs (not_none xs (clean_split (main_notes xs) (items_walked xs (known_first xs)).notes (clean_unit xs none)).0) (owns (functions_of xs) fine)

  module _ (fine : AllByRecursion FineHere (functions_of xs)) where
    calls_here : (more : ℕ) → CallsRight R (functions_of xs) (outside xs) (calls (fixed xs depth) more)
    calls_here more = calls_keep R (fixed xs depth) (outside xs) (λ name f is. all_in FineHere (functions_of xs) name f fine is) more

    -- ---- the process of a live tuple

    called_is : (number : ℕ) (vs : List Value) (f : Function) → slice_get (functions_of xs) number ≡ Some f → called_at xs depth number vs ≡ calls (fixed xs depth) 256 f.name.bytes vs
    unfolding called_at
    called_is number vs f is = rw is refl

    arguments_count : (ps : List Parameter) (vs : List Value) → AreArguments ps vs → length ps ≡ length vs
    arguments_count [] [] h = refl
    arguments_count [] (v ∷ vs) h = absurd h
    arguments_count (p ∷ ps) [] h = absurd h
    arguments_count (p ∷ ps) (v ∷ vs) h = ap suc (arguments_count ps vs h.1)

    part_keeps : (p : PlainPart) → PartFits (functions_of xs) p → Keeps R K (Becomes p) (part_does xs depth p)
    unfolding part_does
    part_keeps (Ready v) h = keeps_pure R K (Becomes (Ready v)) v refl
    part_keeps (Call number vs gives) h =
        let f = h.0 in
        let name = f.name.bytes in
        let only : (g : Function) → function_in (functions_of xs) name ≡ Some g → f ≡ g = λ g e. let same : Some f ≡ Some g = sym h.2 ∙ e in cc in
        let takes : Takes (functions_of xs) name vs = λ g e. subst (λ (k : Function). length k.parameters ≡ length vs) (only g e) (arguments_count f.parameters vs h.3) in
        subst (Keeps R K (Becomes (Call number vs gives))) (sym (called_is number vs f h.1))
        (keeps_more R K (GivesResult (functions_of xs) name) (Becomes (Call number vs gives)) (calls (fixed xs depth) 256 name vs) (calls_here 256 name vs [] takes) (λ v is. is f h.2 ∙ sym h.4))

    parts_keep : (ps : List PlainPart) → AllByRecursion (PartFits (functions_of xs)) ps → Keeps R K (Become ps) (parts_do xs depth ps)
    unfolding parts_do
    parts_keep [] h = keeps_pure R K (Become []) [] tt
    parts_keep (p ∷ ps) h = keeps_bind R K (Becomes p) (Become (p ∷ ps)) (part_does xs depth p) _ (part_keeps p h.0) (λ v is.
        keeps_bind R K (Become ps) (Become (p ∷ ps)) (parts_do xs depth ps) _ (parts_keep ps h.1) (λ vs are. keeps_pure R K (Become (p ∷ ps)) (v ∷ vs) (is, are)))

    live_keeps : (ps : List PlainPart) → AllByRecursion (PartFits (functions_of xs)) ps → Keeps R K (Become ps) (live xs depth ps)
    unfolding live
    live_keeps ps h = keeps_then R K (λ u. Unit {0}) (Become ps) (claim (cells_of_globals xs)) (parts_do xs depth ps) (right_claim R K (λ u all. K all × Unit {0}) (cells_of_globals xs) (λ v w. (w, tt))) (parts_keep ps h)

module _ (R : PlainRequest → Type 0) (xs : List Item) where
  abbrev FineAt : ℕ → Function → Type 0
  FineAt depth f = FineHere R xs depth f

  -- ---- process 0

  main_keeps : AllByRecursion (FineAt 0) (functions_of xs) → Begins (functions_of xs) → Keeps R (K R xs 0) (EndFits xs Main) (main xs)
  unfolding main
  main_keeps fine b =
      let K : Variables → Type 0 = λ all. Fits (outside xs) [] all in
      let f = b.0 in
      let Q : Value → Type 0 = IsOf (result_type f) in
      let given : FitsScope (parameters_declared f.parameters) [] = subst (λ ps. FitsScope (parameters_declared ps) []) (sym b.2) tt in
      let go : Function → Does Value = λ f. run (fixed xs 0) (calls (fixed xs 0) 255) f [] in
      keeps_then R K (λ u. Unit {0}) (EndFits xs Main) (claim (cells_of_globals xs)) _ (right_claim R K (λ u all. K all × Unit {0}) (cells_of_globals xs) (λ v w. (w, tt)))
      (keeps_bind R K Q (EndFits xs Main) (function_named (Int (pos 0)) (functions_of xs) main_name go) _
      (subst (Keeps R K Q) (sym (named_is (Int (pos 0)) (functions_of xs) main_name f go b.1)) (run_keeps R (fixed xs 0) (outside xs) (calls (fixed xs 0) 255) (calls_here R xs 0 fine 255) f (all_in (FineAt 0) (functions_of xs) main_name f fine b.1) [] given []))
      (λ v is. keeps_pure R K (EndFits xs Main) (v ∷ []) (f, b.1, v, refl, is)))

  process_keeps : (start : PlainStart) → AllByRecursion (FineAt (depth_of start)) (functions_of xs) → Begins (functions_of xs) → StartFits xs start → Keeps R (λ all. Fits (outside xs) [] all) (EndFits xs start) (process xs start)
  unfolding process
  process_keeps Main fine b h = main_keeps fine b
  process_keeps (Lives number parts depth) fine b h = live_keeps R xs depth fine parts h

  -- globals are of their types, and no local stands
  begins : (ticks : ℕ) → Fits (outside xs) [] (begun xs ticks).variables
  begins ticks = record { outside = outer_fits xs; inside = tt }

  -- a process that begins as it fits asks for what its text allows, gives what fits, and keeps globals at their types
  pub process_leads : faults xs ≡ [] → are_settled xs ≡ true → (start : PlainStart) → Allows (λ bytes. text_number bytes (texts_of xs)) (functions_of xs) (depth_of start) (λ place. site_at place (in_items xs)) R (findings xs) → StartFits xs start → (ticks : ℕ) →
      Leads R (λ vs all. Fits (outside xs) [] all × EndFits xs start vs) (process xs start (begun xs ticks))
  process_leads none settled start allowed h ticks =
      let fine = all_fine R xs (depth_of start) none settled allowed in process_keeps start fine (begins_main R xs (depth_of start) none fine) h (begun xs ticks) (begins ticks)

-- ---- expressions

nothing_asked : (text : List ℕ → ℕ) (functions : List Function) (depth : ℕ) (site : ℕ → ℕ) (fs : Forms) → Allows text functions depth site (λ q. Unit {0}) fs
nothing_asked text functions depth site [] = tt
nothing_asked text functions depth site (x ∷ fs) = (λ ask suits few. tt, nothing_asked text functions depth site fs)

nothing_fine : (xs : List Item) (depth : ℕ) → faults xs ≡ [] → are_settled xs ≡ true → AllByRecursion (FineHere (λ q. Unit {0}) xs depth) (functions_of xs)
nothing_fine xs depth none settled = all_fine (λ q. Unit {0}) xs depth none settled (nothing_asked (λ bytes. text_number bytes (texts_of xs)) (functions_of xs) depth (λ place. site_at place (in_items xs)) (findings xs))

-- it is there
pub main_is : (xs : List Item) → faults xs ≡ [] → are_settled xs ≡ true → Begins (functions_of xs)
main_is xs none settled = begins_main (λ q. Unit {0}) xs 0 none (nothing_fine xs 0 none settled)

pub functions_have_scenes : FunctionsHaveScenes
functions_have_scenes xs none settled before behind f is =
    let R : PlainRequest → Type 0 = λ q. Unit {0} in
    let text : List ℕ → ℕ = λ bytes. text_number bytes (texts_of xs) in
    let site : ℕ → ℕ = λ place. site_at place (in_items xs) in
    let each = each_fine R xs 0 none settled (nothing_asked text (functions_of xs) 0 site (findings xs)) in
    let fine = fine_behind (functions_of xs) R text 0 site (outside xs) before f behind (known_first xs) (subst (λ ys. EachFine (functions_of xs) R text 0 site (outside xs) ys (known_first xs)) is each) in
    (record { outer = []; inner = parameters_declared f.parameters; known = fine.0.known; sees = fine.0.sees }, refl, refl, fine.1, fine.0.fresh, fine.0.clean)

some_found : (o : Option TypeName) → IsFound o → (t : TypeName) × (o ≡ Some t)
some_found None h = absurd h
some_found (Some t) h = (t, refl)

pub values_are_typed : ValuesAreTyped
values_are_typed xs none settled depth more c x clean =
    let R : PlainRequest → Type 0 = λ q. Unit {0} in
    let fine = nothing_fine xs depth none settled in
    let kept = Fits (outside xs) (c.outer ++ c.inner ∷ []) in
    let found = some_found (judged x c.known).type ((judged_well x c.known).clean clean).0 in
    let own = (every_expr R (around xs depth more) (functions_of xs) (outside xs) (calls_here R xs depth fine more) (λ name vs. refl) x c clean
    (nothing_asked (λ bytes. text_number bytes (texts_of xs)) (functions_of xs) depth (λ place. site_at place (in_items xs)) (expr_forms x c.known))).0 in
    (found.0, found.1, keeps_more R kept (ValueIs x c.known) (λ v. IsOf found.0 v × IsFoundNumber (constant_of x c.known) v) (value (around xs depth more) x) own (λ v p. (subst (λ o. IsOfFound o v) found.1 p.0, p.1)))

pub statements_lead : StatementsLead
statements_lead xs none settled depth more c context x own fresh clean =
    let R : PlainRequest → Type 0 = λ q. Unit {0} in
    let fine = nothing_fine xs depth none settled in
    let l = (every_stmt R (around xs depth more) (functions_of xs) (outside xs) (calls_here R xs depth fine more) (λ name vs. refl) (size_in (outer xs)) x c context own clean
    (nothing_asked (λ bytes. text_number bytes (texts_of xs)) (functions_of xs) depth (λ place. site_at place (in_items xs)) (stmt_forms x c.known))).1 fresh in
    (record { outer = c.outer; inner = l.inner; known = known_behind x c.known; sees = l.sees }, refl, sym (same_known x context c.known), l.fresh, l.right)

pub scopes_are_entered : ScopesAreEntered
scopes_are_entered functions globals c =
    (entered_sees functions globals c.outer c.inner c.known c.sees, entered_fresh c.known, inside_sees functions globals c.outer c.inner c.known c.sees)

pub statements_keep : StatementsKeep
statements_keep xs none settled depth more c context x own alone clean =
    let R : PlainRequest → Type 0 = λ q. Unit {0} in
    let fine = nothing_fine xs depth none settled in
    (every_stmt R (around xs depth more) (functions_of xs) (outside xs) (calls_here R xs depth fine more) (λ name vs. refl) (size_in (outer xs)) x c context own clean
    (nothing_asked (λ bytes. text_number bytes (texts_of xs)) (functions_of xs) depth (λ place. site_at place (in_items xs)) (stmt_forms x c.known))).0 alone

-- ---- demands

module _ (text : List ℕ → ℕ) (site : ℕ → ℕ) (functions : List Function) where
  weaker : (depth : ℕ) (R S : PlainRequest → Type 0) (fs : Forms) → ((q : PlainRequest) → R q → S q) → Allows text functions depth site R fs → Allows text functions depth site S fs
  weaker depth R S [] k h = tt
  weaker depth R S (x ∷ fs) k h = (λ ask suits few. k (record { site = site (out-Operation x.0).span.start; ask = ask }) (h.0 ask suits few), weaker depth R S fs k h.1)

  -- each operation may ask for what suits it, and is no `eval` that is too deep
  abbrev Asked : ℕ → Forms → PlainRequest → Type 0
  Asked depth fs q = AsksAt text site functions fs q × IsShallow depth q.ask

  asks_allowed : (depth : ℕ) (fs : Forms) → Allows text functions depth site (Asked depth fs) fs
  asks_allowed depth [] = tt
  asks_allowed depth (x ∷ fs) = (λ ask suits few. (inl (refl, suits), few), weaker depth (Asked depth fs) (Asked depth (x ∷ fs)) fs (λ q h. (inr h.0, h.1)) (asks_allowed depth fs))

-- what holds of each request holds of what is wanted, and what is finished with has what is given in the end
abbrev OutcomeHas : (PlainRequest → Type 0) → (List Value → Type 0) → Outcome → Type 0
OutcomeHas R P (Wants q) = R q
OutcomeHas R P (Finishes vs) = P vs
OutcomeHas R P (Traps t) = Unit {0}
OutcomeHas R P Misfit = Unit {0}

outcome_has : (R : PlainRequest → Type 0) (P : List Value → Type 0) (d : Steps (List Value × State Variables)) (output : List ℕ) (replies : List PlainReply) → Leads R (λ vs all. P vs) d → OutcomeHas R P (demand_of d output replies).outcome
outcome_has R P (Gives r) output [] h = h
outcome_has R P (Gives r) output (reply ∷ replies) h = tt
outcome_has R P (Stops t) output [] h = tt
outcome_has R P (Stops t) output (reply ∷ replies) h = tt
outcome_has R P (Prints bytes rest) output replies h = outcome_has R P rest (output ++ bytes) replies h
outcome_has R P (Asks q rest) output [] h = h.0
outcome_has R P (Asks q rest) output (reply ∷ replies) h = by (fits q.ask reply) refl (λ fit. outcome_has R P (rest reply) output replies (h.1 reply fit))
  where
    by : (b : Bool) → fits q.ask reply ≡ b → (fits q.ask reply ≡ true → OutcomeHas R P (demand_of (rest reply) output replies).outcome) →
        OutcomeHas R P (if b then demand_of (rest reply) output replies else record { output = output; outcome = Misfit }).outcome
    by true is k = k is
    by false is k = tt

-- a request of the text, which a process of this depth may ask for
abbrev RequestAt : List Item → ℕ → PlainRequest → Type 0
RequestAt xs depth q = IsRequestOf xs q × IsShallow depth q.ask

demands_have : (xs : List Item) → faults xs ≡ [] → are_settled xs ≡ true → (start : PlainStart) → StartFits xs start → (ticks : ℕ) (replies : List PlainReply) → OutcomeHas (RequestAt xs (depth_of start)) (EndFits xs start) (demand_of (process xs start (begun xs ticks)) [] replies).outcome
demands_have xs none settled start h ticks replies =
    let R = RequestAt xs (depth_of start) in
    let allowed = asks_allowed (λ bytes. text_number bytes (texts_of xs)) (λ place. site_at place (in_items xs)) (functions_of xs) (depth_of start) (findings xs) in
    outcome_has R (EndFits xs start) (process xs start (begun xs ticks)) [] replies
    (leads_more R (λ vs all. Fits (outside xs) [] all × EndFits xs start vs) (λ vs all. EndFits xs start vs) (process xs start (begun xs ticks)) (process_leads R xs none settled start allowed h ticks) (λ vs all p. p.1))

-- in a text without faults each demand is for an operation of the text, with fields of the types that are judged, or finishes with values of theirs
pub demands_fit : DemandsFit
demands_fit xs none settled start h ticks replies = by (demand_of (process xs start (begun xs ticks)) [] replies).outcome (demands_have xs none settled start h ticks replies)
  where
    by : (o : Outcome) → OutcomeHas (RequestAt xs (depth_of start)) (EndFits xs start) o → OutcomeFits xs start o
    by (Wants q) has = has.0
    by (Finishes vs) has = has
    by (Traps t) has = tt
    by Misfit has = tt

-- and no `eval` is asked for by a process that is too deep
pub evals_are_shallow : EvalsAreShallow
evals_are_shallow xs none settled start h ticks replies q live is ask =
    let own = subst (OutcomeHas (RequestAt xs (depth_of start)) (EndFits xs start)) is (demands_have xs none settled start h ticks replies) in
    subst (IsShallow (depth_of start)) ask own.1

-- ---- what an `eval` makes begins as it fits

part_fits : (text : List ℕ → ℕ) (functions : List Function) (field : Field) (x : Finding) (p : PlainPart) → PartSuits text functions field x p → PartFits functions p
part_fits text functions field x (Ready v) h = tt
part_fits text functions field (findings_of.Actual t) (Call number vs gives) h = (h.0, h.1, h.2, h.3, h.4)
part_fits text functions field findings_of.Text (Call number vs gives) h = absurd h
part_fits text functions field (findings_of.Constant n) (Call number vs gives) h = absurd h
part_fits text functions field (findings_of.Formal t) (Call number vs gives) h = absurd h

parts_fit : (text : List ℕ → ℕ) (functions : List Function) (fs : List Field) (xs : List Finding) (ps : List PlainPart) → Beside (PartSuits text functions) fs xs ps → AllByRecursion (PartFits functions) ps
parts_fit text functions fs xs [] h = tt
parts_fit text functions [] [] (p ∷ ps) h = absurd h
parts_fit text functions [] (x ∷ xs) (p ∷ ps) h = absurd h
parts_fit text functions (f ∷ fs) [] (p ∷ ps) h = absurd h
parts_fit text functions (f ∷ fs) (x ∷ xs) (p ∷ ps) h = (part_fits text functions f x p h.0, parts_fit text functions fs xs ps h.1)

eval_fits : (text : List ℕ → ℕ) (functions : List Function) (verb : Verb) (fs : List Field) (xs : List Finding) (ps : List PlainPart) → AskSuits text functions verb fs xs (Eval ps) → AllByRecursion (PartFits functions) ps
eval_fits text functions verbs.Eval fs xs ps h = parts_fit text functions fs xs ps h
eval_fits text functions verbs.Out fs xs ps h = absurd h
eval_fits text functions verbs.In fs xs ps h = absurd h
eval_fits text functions verbs.Rd fs xs ps h = absurd h
eval_fits text functions verbs.Inp fs xs ps h = absurd h
eval_fits text functions verbs.Rdp fs xs ps h = absurd h

asked_fits : (text : List ℕ → ℕ) (site : ℕ → ℕ) (functions : List Function) (found : Forms) (q : PlainRequest) (ps : List PlainPart) → q.ask ≡ Eval ps → AsksAt text site functions found q → AllByRecursion (PartFits functions) ps
asked_fits text site functions [] q ps is h = absurd h
asked_fits text site functions (x ∷ found) q ps is (inl h) = eval_fits text functions (out-Operation x.0).verb (out-Operation x.0).fields x.1 ps (subst (AskSuits text functions (out-Operation x.0).verb (out-Operation x.0).fields x.1) is h.1)
asked_fits text site functions (x ∷ found) q ps is (inr h) = asked_fits text site functions found q ps is h

pub evals_fit : EvalsFit
evals_fit xs q live depth h is = asked_fits (λ bytes. text_number bytes (texts_of xs)) (λ place. site_at place (in_items xs)) (functions_of xs) (findings xs) q live is h
