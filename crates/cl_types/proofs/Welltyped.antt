-- In an expression each operation is noted and found once. Where no fault is noted in it, its type is found and so is that of each field of the
-- operations in it, none of which has more than 16.
use Rattle.std.proofs.Common.{◌≡◌, ◌∙◌, ◌≤◌, ap, sym, refl, subst, suc, List, [], ◌∷◌, ◌++◌, map, length, length-append, Option, Some, None, append_assoc, arith}
use Rattle.std.proofs.lemmas.List.{append-nil}
use Rattle.std.specs.List.{AllByRecursion}
use Rattle.std.specs.Prelude.{option_map}
use Rattle.cl_ast.specs.declared.tree.Literal.{Literal}
use Rattle.cl_ast.specs.declared.tree.Text.{Text}
use Rattle.cl_ast.specs.declared.tree.Verb.{Verb}
use Rattle.cl_ast.specs.declared.tree.Expr.{Expr}
use Rattle.cl_ast.specs.declared.tree.Expr.TheVariants as exprs
use Rattle.cl_ast.specs.declared.tree.Place.{Place, out-Place}
use Rattle.cl_ast.specs.declared.tree.Call.{Call, out-Call}
use Rattle.cl_ast.specs.declared.tree.Operation.{Operation, out-Operation}
use Rattle.cl_ast.specs.declared.tree.Field.{Field}
use Rattle.cl_ast.specs.declared.tree.Field.TheVariants as fields
use Rattle.cl_ast.specs.declared.tree.Formal.{Formal, out-Formal}
use Rattle.cl_ast.specs.declared.tree.Chain.{Chain, out-Chain}
use Rattle.cl_ast.specs.declared.tree.Link.{Link, out-Link}
use Rattle.cl_ast.specs.declared.tree.Prefix.{Prefix, out-Prefix}
use Rattle.cl_ast.proofs.Inductions.{ExprGoods, every_expr as inductive_expr, every_place as inductive_place, every_call as inductive_call, every_operation as inductive_operation}
use Rattle.cl_types.specs.declared.context.Access.{Access}
use Rattle.cl_types.specs.declared.context.Access.TheVariants as accesses
use Rattle.cl_types.specs.declared.context.Purpose.{Purpose}
use Rattle.cl_types.specs.declared.context.Purpose.TheVariants as purposes
use Rattle.cl_types.specs.Notes.{Note, Site, found_all}
use Rattle.cl_types.specs.Types.{literal_type, negated_type}
use Rattle.cl_types.specs.Declarations.{Known, look_up}
use Rattle.cl_ast.specs.declared.tree.TypeName.TheVariants as types
use Rattle.cl_types.specs.Expressions.{Judged, LinkJudges, no_notes, judged_name, judged_called, place_faults, is_indexed, index_notes, call_faults, width_faults, formal_faults, notes_of, joined, all_judged, all_noted, judged_link, chained, judged, judged_place, judged_call, judged_chain, judged_operand, operation_notes, field_notes, constant_of}
use Rattle.cl_types.specs.Findings.{Finding, Forms}
use Rattle.cl_types.specs.Fields.{field_form, own_forms, expr_forms, place_forms, call_forms, operation_forms, inner_forms, chain_forms, link_forms}
use Rattle.cl_types.specs.Gathered.{each, maybe_forms}
use Rattle.cl_types.specs.EachTyped.{IsFound, HasType}
use Rattle.cl_types.proofs.Rules as rules
use Rattle.cl_types.proofs.Finding as finding
use Rattle.cl_types.proofs.Clean.{Clean, clean_split, none_found, sites_in, sites_append, quiet_found, narrow_width, place_found, Gives, gives_found, operated_found, negated_found, plain_typed}

-- the fields of one operation
abbrev pub Fine : Operation × List Finding → Type 0
Fine x = AllByRecursion HasType x.1 × (length x.1 ≤ 16)

-- What holds of what is noted and found in a part: as many operations are noted as are found, and where no fault is noted, A holds too, and the
-- operations are fine.
pub record Holds (A : Type 0) (ns : List Note) (fs : Forms) : Type 0 where
  pub count : length fs ≡ sites_in ns
  pub clean : Clean ns → A × AllByRecursion Fine fs

pub holds_is : {B : Type 0} (A : Type 0) (ns ns' : List Note) (fs fs' : Forms) → ns ≡ ns' → fs ≡ fs' → (B → A) → Holds B ns' fs' → Holds A ns fs
holds_is A ns ns' fs fs' hn hf k g = record {
  count = ap length hf ∙ (g.count ∙ sym (ap sites_in hn));
  clean = λ (c : Clean ns). let r = g.clean (subst Clean hn c) in (k r.0, subst (AllByRecursion Fine) (sym hf) r.1);
}

good_is : (j j' : Judged) (fs fs' : Forms) → j ≡ j' → fs ≡ fs' → Holds (IsFound j'.type) j'.notes fs' → Holds (IsFound j.type) j.notes fs
good_is j j' fs fs' hj hf g =
    let Q : Judged → Type 0 = λ k. IsFound k.type in holds_is (IsFound j.type) j.notes j'.notes fs fs' (ap (λ (k : Judged). k.notes) hj) hf (λ (x : IsFound j'.type). subst Q (sym hj) x) g

each_append : (a b : Forms) → AllByRecursion Fine a → AllByRecursion Fine b → AllByRecursion Fine (a ++ b)
each_append [] b ha hb = hb
each_append (x ∷ a) b ha hb = (ha.0, each_append a b ha.1 hb)

-- one part behind another
pub both : {A B : Type 0} (C : Type 0) (a b : List Note) (x y : Forms) → (A → B → C) → Holds A a x → Holds B b y → Holds C (a ++ b) (x ++ y)
both C a b x y k f g = record {
  count = let m = length-append x y in let n = sites_append a b in let p = f.count in let q = g.count in omega (arith, m, n, p, q);
  clean = λ (c : Clean (a ++ b)).
      let d = clean_split a b c in
      let p = f.clean d.0 in
      let q = g.clean d.1 in (k p.0 q.0, each_append x y p.1 q.1);
}

-- something is noted besides, before and behind
pub beside : {A : Type 0} (B : Type 0) (a b : List Note) (x : Forms) → sites_in a ≡ 0 → (Clean a → A → B) → Holds A b x → Holds B (a ++ b) x
beside B a b x quiet k g = record {
  count = let n = sites_append a b in let q = g.count in omega (arith, n, q, quiet);
  clean = λ (c : Clean (a ++ b)).
      let d = clean_split a b c in
      let q = g.clean d.1 in (k d.0 q.0, q.1);
}

pub before : {A : Type 0} (B : Type 0) (a b : List Note) (x : Forms) → sites_in b ≡ 0 → (A → B) → Holds A a x → Holds B (a ++ b) x
before B a b x quiet k f = record {
  count = let n = sites_append a b in let p = f.count in omega (arith, n, p, quiet);
  clean = λ (c : Clean (a ++ b)). let p = f.clean (clean_split a b c).0 in (k p.0, p.1);
}

pub nothing : (ns : List Note) → sites_in ns ≡ 0 → Holds (Unit {0}) ns []
nothing ns quiet = record { count = sym quiet; clean = λ (c : Clean ns). (tt, tt) }

abbrev pub Sound : List Note → Forms → Type 0
Sound ns fs = Holds (Unit {0}) ns fs

abbrev pub GoodExpr : Expr → Type 0
GoodExpr x = (known : Known) → Holds (IsFound (judged x known).type) (judged x known).notes (expr_forms x known)

abbrev pub GoodPlace : Place → Type 0
GoodPlace x = (access : Access) (known : Known) → Holds (IsFound (judged_place x access known).type) (judged_place x access known).notes (place_forms x known)

abbrev pub GoodCall : Call → Type 0
GoodCall x = (purpose : Purpose) (known : Known) → Holds (Gives purpose (judged_call x purpose known).type) (judged_call x purpose known).notes (call_forms x known)

abbrev pub GoodOperation : Operation → Type 0
GoodOperation x = (known : Known) → Sound (operation_notes x known) (operation_forms x known)

abbrev pub GoodField : Field → Type 0
GoodField x = (verb : Verb) (known : Known) → Holds (HasType (field_form x known)) (field_notes x verb known) (inner_forms x known)

abbrev pub GoodChain : Chain → Type 0
GoodChain x = (known : Known) → Holds (IsFound (judged_chain x known).type) (judged_chain x known).notes (chain_forms x known)

abbrev pub GoodFormal : Formal → Type 0
GoodFormal x = GoodPlace (out-Formal x).target

abbrev pub GoodLink : Link → Type 0
GoodLink x = GoodExpr (out-Link x).operand

abbrev pub GoodPrefix : Prefix → Type 0
GoodPrefix x = GoodExpr (out-Prefix x).operand

-- ---- each form of an expression

good_literal : (x : Literal) → GoodExpr (exprs.Literal x)
good_literal x known =
    good_is (judged (exprs.Literal x) known) (no_notes (Some (literal_type x.value))) _ _ (rules.of_literal x known) (finding.of_literal x known) (record { count = refl; clean = λ (c : Clean []). (tt, tt) })

good_place : (x : Place) → GoodPlace x → GoodExpr (exprs.Place x)
good_place x g known = good_is _ _ _ _ (rules.of_place x known) (finding.of_place x known) (g accesses.Read known)

good_call : (x : Call) → GoodCall x → GoodExpr (exprs.Call x)
good_call x g known = good_is _ _ _ _ (rules.of_call x known) (finding.of_call x known) (g purposes.Value known)

good_operation : (x : Operation) → GoodOperation x → GoodExpr (exprs.Operation x)
good_operation x g known =
    let h = g known in
    good_is _ (record { type = Some types.Int; notes = operation_notes x known }) _ _ (rules.of_operation x known) (finding.of_operation x known) (record { count = h.count; clean = λ (c : Clean (operation_notes x known)). h.clean c })

good_chain : (x : Chain) → GoodChain x → GoodExpr (exprs.Chain x)
good_chain x g known = good_is _ _ _ _ (rules.of_chain x known) (finding.of_chain x known) (g known)

good_negate : (x : Prefix) → GoodPrefix x → GoodExpr (exprs.Negate x)
good_negate x g known =
    let j = judged (out-Prefix x).operand known in
    let h = g known in
    good_is _ (record { type = negated_type j.type; notes = j.notes }) _ _ (rules.of_negate x known) (finding.of_negate x known)
    (record { count = h.count; clean = λ (c : Clean j.notes). let r = h.clean c in (negated_found j.type r.0, r.1) })

good_not : (x : Prefix) → GoodPrefix x → GoodExpr (exprs.Not x)
good_not x g known =
    let j = judged (out-Prefix x).operand known in
    let h = g known in
    good_is _ (record { type = Some types.Int; notes = j.notes }) _ _ (rules.of_not x known) (finding.of_not x known) (record { count = h.count; clean = λ (c : Clean j.notes). (tt, (h.clean c).1) })

-- ---- each form of a field

good_text : (x : Text) → GoodField (fields.Text x)
good_text x verb known =
    holds_is (HasType (field_form (fields.Text x) known)) _ [] _ [] (rules.of_text x verb known) (finding.of_text x known) (λ (u : Unit {0}). subst HasType (sym (finding.text_form x known)) tt) (nothing [] refl)

good_formal : (x : Formal) → GoodFormal x → GoodField (fields.Formal x)
good_formal x g verb known =
    let target = (out-Formal x).target in
    let j = judged_place target accesses.Write known in
    let own = found_all (formal_faults verb) (out-Formal x).span.start in
    holds_is (HasType (field_form (fields.Formal x) known)) _ (own ++ j.notes) _ (place_forms target known) (rules.of_formal x verb known ∙ rules.formal_is x verb known) (finding.of_formal x known)
    (λ (t : IsFound j.type). subst HasType (sym (finding.formal_form x known)) t)
    (beside (IsFound j.type) own j.notes (place_forms target known) (quiet_found (formal_faults verb) (out-Formal x).span.start) (λ (c : Clean own) (t : IsFound j.type). t) (g accesses.Write known))

good_plain : (x : Expr) → GoodExpr x → GoodField (fields.Plain x)
good_plain x g verb known =
    let j = judged x known in
    holds_is (HasType (field_form (fields.Plain x) known)) _ j.notes _ (expr_forms x known) (rules.of_plain x verb known) (finding.of_plain x known)
    (λ (t : IsFound j.type). subst HasType (sym (finding.expr_form x known)) (plain_typed (constant_of x known) j.type t)) (g known)

-- ---- places, calls, operations and chains, by what holds of their parts

good_index : (index : Option ((x : Expr) × GoodExpr x)) (known : Known) → Sound (index_notes (option_map (λ e. judged e known) (option_map (λ y. y.0) index))) (maybe_forms (option_map (λ y. y.0) index) known)
good_index None known = nothing [] refl
good_index (Some y) known = holds_is (Unit {0}) _ _ _ _ refl refl (λ (t : IsFound (judged y.0 known).type). tt) (y.1 known)

place_good : (p : Place) (index : Option ((x : Expr) × GoodExpr x)) → option_map (λ y. y.0) index ≡ (out-Place p).index → GoodPlace p
place_good p index h access known =
    let P : Option Expr → Type 0 = λ i. Sound (index_notes (option_map (λ e. judged e known) i)) (maybe_forms i known) in
    let i = option_map (λ e. judged e known) (out-Place p).index in
    let what = look_up (out-Place p).name.bytes known in
    let ks = place_faults access (is_indexed i) what in
    let at = (out-Place p).name.span.start in
    let j = judged_name access (out-Place p).name i what in
    good_is _ j _ (maybe_forms (out-Place p).index known) (rules.place_is p access known) (finding.place_is p known)
    (beside (IsFound j.type) (found_all ks at) (index_notes i) (maybe_forms (out-Place p).index known) (quiet_found ks at) (λ (c : Clean (found_all ks at)) (u : Unit {0}). place_found access (is_indexed i) what (none_found ks at c)) (subst P h (good_index index known)))

good_arguments : (ys : List ((x : Expr) × GoodExpr x)) (known : Known) → Sound (notes_of (all_judged known (map judged (map (λ y. y.0) ys)))) (each expr_forms (map (λ y. y.0) ys) known)
good_arguments [] known = nothing [] refl
good_arguments (y ∷ ys) known =
    both (Unit {0}) (judged y.0 known).notes (notes_of (all_judged known (map judged (map (λ z. z.0) ys)))) (expr_forms y.0 known) (each expr_forms (map (λ z. z.0) ys) known)
    (λ (t : IsFound (judged y.0 known).type) (u : Unit {0}). tt) (y.1 known) (good_arguments ys known)

call_good : (x : Call) (ys : List ((e : Expr) × GoodExpr e)) → map (λ y. y.0) ys ≡ (out-Call x).arguments → GoodCall x
call_good x ys h purpose known =
    let P : List Expr → Type 0 = λ es. Sound (notes_of (all_judged known (map judged es))) (each expr_forms es known) in
    let Q : Judged → Type 0 = λ k. Gives purpose k.type in
    let arguments = all_judged known (map judged (out-Call x).arguments) in
    let what = look_up (out-Call x).name.bytes known in
    let ks = call_faults purpose (length arguments) what in
    let at = (out-Call x).name.span.start in
    let is = rules.call_is x purpose known in
    let j = judged_called purpose (out-Call x).name arguments what in
    holds_is (Q (judged_call x purpose known)) _ j.notes _ (each expr_forms (out-Call x).arguments known) (ap (λ (k : Judged). k.notes) is) (finding.call_is x known) (λ (t : Q j). subst Q (sym is) t)
    (beside (Q j) (found_all ks at) (notes_of arguments) (each expr_forms (out-Call x).arguments known) (quiet_found ks at) (λ (c : Clean (found_all ks at)) (u : Unit {0}). gives_found purpose (length arguments) what (none_found ks at c)) (subst P h (good_arguments ys known)))

good_fields : (ys : List ((x : Field) × GoodField x)) (verb : Verb) (known : Known) →
    Holds (AllByRecursion HasType (own_forms (map (λ y. y.0) ys) known)) (joined (all_noted verb known (map field_notes (map (λ y. y.0) ys)))) (each inner_forms (map (λ y. y.0) ys) known)
good_fields [] verb known = record { count = refl; clean = λ (c : Clean []). (tt, tt) }
good_fields (y ∷ ys) verb known =
    let rest = map (λ z. z.0) ys in
    both (HasType (field_form y.0 known) × AllByRecursion HasType (own_forms rest known)) (field_notes y.0 verb known) (joined (all_noted verb known (map field_notes rest))) (inner_forms y.0 known) (each inner_forms rest known)
    (λ (t : HasType (field_form y.0 known)) (ts : AllByRecursion HasType (own_forms rest known)). (t, ts)) (y.1 verb known) (good_fields ys verb known)

own_length : (fs : List Field) (verb : Verb) (known : Known) → length (all_noted verb known (map field_notes fs)) ≡ length (own_forms fs known)
own_length [] verb known = refl
own_length (f ∷ fs) verb known = ap suc (own_length fs verb known)

operation_good : (o : Operation) (ys : List ((x : Field) × GoodField x)) → map (λ y. y.0) ys ≡ (out-Operation o).fields → GoodOperation o
operation_good o ys h known =
    let verb = (out-Operation o).verb in
    let fs = (out-Operation o).fields in
    let P : List Field → Type 0 = λ gs. Holds (AllByRecursion HasType (own_forms gs known)) (joined (all_noted verb known (map field_notes gs))) (each inner_forms gs known) in
    let parts = all_noted verb known (map field_notes fs) in
    let at = (out-Operation o).span.start in
    let ks = width_faults (length parts) in
    let narrow : Clean (found_all ks at) → length (own_forms fs known) ≤ 16 =
    λ c. subst (λ n. n ≤ 16) (own_length fs verb known) (narrow_width (length parts) (none_found ks at c)) in
    let inner = beside (Fine (o, own_forms fs known)) (found_all ks at) (joined parts) (each inner_forms fs known) (quiet_found ks at) (λ (c : Clean (found_all ks at)) (ts : AllByRecursion HasType (own_forms fs known)). (ts, narrow c)) (subst P h (good_fields ys verb known)) in
    holds_is (Unit {0}) _ (Site at ∷ (found_all ks at ++ joined parts)) _ ((o, own_forms fs known) ∷ each inner_forms fs known) (rules.operation_is o known) (finding.operation_is o known) (λ (u : Unit {0}). tt)
    (record { count = ap suc inner.count; clean = λ (c : Clean (found_all ks at ++ joined parts)). let r = inner.clean c in (tt, (r.0, r.1)) })

-- what holds of a chain so far holds of the whole
good_links : (ys : List ((x : Link) × GoodLink x)) (known : Known) (a : Judged) (fa : Forms) → Holds (IsFound a.type) a.notes fa →
    Holds (IsFound (chained known a (map judged_operand (map (λ y. y.0) ys))).type) (chained known a (map judged_operand (map (λ y. y.0) ys))).notes (fa ++ each link_forms (map (λ y. y.0) ys) known)
good_links [] known a fa g = good_is a a (fa ++ []) fa refl (append-nil fa) g
good_links (y ∷ ys) known a fa g =
    let x = (out-Link y.0).operand in
    let operator = (out-Link y.0).operator in
    let b = judged x known in
    let rest = map judged_operand (map (λ z. z.0) ys) in
    let more = each link_forms (map (λ z. z.0) ys) known in
    let next = judged_link a operator b in
    let step : Holds (IsFound next.type) next.notes (fa ++ expr_forms x known) =
    both (IsFound next.type) a.notes b.notes fa (expr_forms x known) (λ (p : IsFound a.type) (q : IsFound b.type). operated_found operator a.type b.type p q) g (y.1 known) in
    good_is (chained known a (map judged_operand (map (λ z. z.0) (y ∷ ys)))) (chained known next rest) (fa ++ each link_forms (map (λ z. z.0) (y ∷ ys)) known) ((fa ++ expr_forms x known) ++ more)
    (ap (λ (k : LinkJudges). chained known (judged_link a k.operator (k.operand known)) rest) (rules.link_is y.0))
    (ap (λ z. fa ++ (z ++ more)) (finding.link_is y.0 known) ∙ sym (append_assoc fa (expr_forms x known) more))
    (good_links ys known next (fa ++ expr_forms x known) step)

chain_good : (h : Chain) → GoodExpr (out-Chain h).first → (ys : List ((x : Link) × GoodLink x)) → map (λ y. y.0) ys ≡ (out-Chain h).others → GoodChain h
chain_good h g ys e known =
    let first = (out-Chain h).first in
    let a = judged first known in
    let P : List Link → Type 0 = λ ls. Holds (IsFound (chained known a (map judged_operand ls)).type) (chained known a (map judged_operand ls)).notes (expr_forms first known ++ each link_forms ls known) in
    good_is _ _ _ _ (rules.chain_is h known) (finding.chain_is h known) (subst P e (good_links ys known a (expr_forms first known) (g known)))

-- ---- every expression

goods : ExprGoods GoodExpr GoodField GoodCall GoodChain GoodOperation GoodPlace
goods = record { literal = good_literal; named = good_place; called = good_call; operating = good_operation; chained = good_chain; negated = good_negate; denied = good_not; text = good_text; formal = good_formal; plain = good_plain; place = place_good; call = call_good; operation = operation_good; chain = chain_good }

pub every_expr : (x : Expr) → GoodExpr x
every_expr = inductive_expr goods

pub every_place : (x : Place) → GoodPlace x
every_place = inductive_place goods

pub every_call : (x : Call) → GoodCall x
every_call = inductive_call goods

pub every_operation : (x : Operation) → GoodOperation x
every_operation = inductive_operation goods
