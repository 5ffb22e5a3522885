-- The rules of expressions, as equations at each form.
use Rattle.std.proofs.Common.{◌≡◌, ◌∙◌, ap, refl, [], ◌++◌, map, Option, Some, None}
use Rattle.std.specs.Prelude.{option_map}
use Rattle.cl_ast.specs.declared.tree.Literal.{Literal}
use Rattle.cl_ast.specs.declared.tree.Text.{Text}
use Rattle.cl_ast.specs.declared.tree.Expr.{Expr}
use Rattle.cl_ast.specs.declared.tree.Expr.TheVariants as exprs
use Rattle.cl_ast.specs.declared.tree.TypeName.TheVariants as types
use Rattle.cl_ast.specs.declared.tree.Place.{Place, out-Place}
use Rattle.cl_ast.specs.declared.tree.Call.{Call, out-Call}
use Rattle.cl_ast.specs.declared.tree.Operation.{Operation, out-Operation}
use Rattle.cl_ast.specs.declared.tree.Field.TheVariants as fields
use Rattle.cl_ast.specs.declared.tree.Formal.{Formal, out-Formal}
use Rattle.cl_ast.specs.declared.tree.Chain.{Chain, out-Chain}
use Rattle.cl_ast.specs.declared.tree.Link.{Link, out-Link}
use Rattle.cl_ast.specs.declared.tree.Prefix.{Prefix, out-Prefix}
use Rattle.cl_ast.specs.declared.tree.Verb.{Verb}
use Rattle.cl_types.specs.Declarations.{Known, look_up}
use Rattle.cl_types.specs.Types.{literal_type, negated_type}
use Rattle.cl_types.specs.Notes.{found_all}
use Rattle.cl_types.specs.declared.context.Access.{Access}
use Rattle.cl_types.specs.declared.context.Access.TheVariants as accesses
use Rattle.cl_types.specs.declared.context.Purpose.{Purpose}
use Rattle.cl_types.specs.declared.context.Purpose.TheVariants as purposes
use Rattle.cl_types.specs.Numbers.{plain_number}
use Rattle.cl_types.specs.Expressions.{Judged, Judges, FieldNotes, CallJudges, OperationNotes, PlaceJudges, Constants, no_notes, judged_name, judged_called, operation_noted, formal_faults, all_judged, all_noted, chained, negated_number, constant_named, is_there, expr_rules, constant_rules, judged, judged_place, judged_call, judged_chain, judged_operand, judged_prefix, operation_notes, field_notes, formal_notes, constant_of}
use Rattle.cl_ast.proofs.Opens as opens

pub of_literal : (x : Literal) (known : Known) → judged (exprs.Literal x) known ≡ no_notes (Some (literal_type x.value))
unfolding judged judged_place judged_call judged_chain judged_operand judged_prefix operation_notes field_notes formal_notes
of_literal x known = ap (λ (f : Judges). f known) (opens.expr_literal expr_rules x)

pub of_place : (x : Place) (known : Known) → judged (exprs.Place x) known ≡ judged_place x accesses.Read known
unfolding judged judged_place judged_call judged_chain judged_operand judged_prefix operation_notes field_notes formal_notes
of_place x known = ap (λ (f : Judges). f known) (opens.expr_place expr_rules x)

pub of_call : (x : Call) (known : Known) → judged (exprs.Call x) known ≡ judged_call x purposes.Value known
unfolding judged judged_place judged_call judged_chain judged_operand judged_prefix operation_notes field_notes formal_notes
of_call x known = ap (λ (f : Judges). f known) (opens.expr_call expr_rules x)

pub of_operation : (x : Operation) (known : Known) → judged (exprs.Operation x) known ≡ record { type = Some types.Int; notes = operation_notes x known }
unfolding judged judged_place judged_call judged_chain judged_operand judged_prefix operation_notes field_notes formal_notes
of_operation x known = ap (λ (f : Judges). f known) (opens.expr_operation expr_rules x)

pub of_chain : (x : Chain) (known : Known) → judged (exprs.Chain x) known ≡ judged_chain x known
unfolding judged judged_place judged_call judged_chain judged_operand judged_prefix operation_notes field_notes formal_notes
of_chain x known = ap (λ (f : Judges). f known) (opens.expr_chain expr_rules x)

prefix_is : (x : Prefix) (known : Known) → judged_prefix x known ≡ judged (out-Prefix x).operand known
unfolding judged judged_place judged_call judged_chain judged_operand judged_prefix operation_notes field_notes formal_notes
prefix_is x known = ap (λ (f : Judges). f known) (opens.prefix_opens expr_rules x)

pub of_negate : (x : Prefix) (known : Known) → judged (exprs.Negate x) known ≡ record { type = negated_type (judged (out-Prefix x).operand known).type; notes = (judged (out-Prefix x).operand known).notes }
unfolding judged judged_place judged_call judged_chain judged_operand judged_prefix operation_notes field_notes formal_notes
of_negate x known =
    ap (λ (f : Judges). f known) (opens.expr_negate expr_rules x)
    ∙ ap (λ (j : Judged). record { type = negated_type j.type; notes = j.notes }) (prefix_is x known)

pub of_not : (x : Prefix) (known : Known) → judged (exprs.Not x) known ≡ record { type = Some types.Int; notes = (judged (out-Prefix x).operand known).notes }
unfolding judged judged_place judged_call judged_chain judged_operand judged_prefix operation_notes field_notes formal_notes
of_not x known =
    ap (λ (f : Judges). f known) (opens.expr_not expr_rules x)
    ∙ ap (λ (j : Judged). record { type = Some types.Int; notes = j.notes }) (prefix_is x known)

pub of_text : (x : Text) (verb : Verb) (known : Known) → field_notes (fields.Text x) verb known ≡ []
unfolding judged judged_place judged_call judged_chain judged_operand judged_prefix operation_notes field_notes formal_notes
of_text x verb known = ap (λ (f : FieldNotes). f verb known) (opens.field_text expr_rules x)

pub of_formal : (x : Formal) (verb : Verb) (known : Known) → field_notes (fields.Formal x) verb known ≡ formal_notes x verb known
unfolding judged judged_place judged_call judged_chain judged_operand judged_prefix operation_notes field_notes formal_notes
of_formal x verb known = ap (λ (f : FieldNotes). f verb known) (opens.field_formal expr_rules x)

pub of_plain : (x : Expr) (verb : Verb) (known : Known) → field_notes (fields.Plain x) verb known ≡ (judged x known).notes
unfolding judged judged_place judged_call judged_chain judged_operand judged_prefix operation_notes field_notes formal_notes
of_plain x verb known = ap (λ (f : FieldNotes). f verb known) (opens.field_plain expr_rules x)

pub place_is : (p : Place) (access : Access) (known : Known) →
    judged_place p access known ≡ judged_name access (out-Place p).name (option_map (λ e. judged e known) (out-Place p).index) (look_up (out-Place p).name.bytes known)
unfolding judged judged_place judged_call judged_chain judged_operand judged_prefix operation_notes field_notes formal_notes
place_is p access known = ap (λ (f : PlaceJudges). f access known) (opens.place_opens expr_rules p) ∙ by (out-Place p).index
  where
    by : (index : Option Expr) → judged_name access (out-Place p).name (option_map (λ (index : Judges). index known) (option_map judged index)) (look_up (out-Place p).name.bytes known) ≡ judged_name access (out-Place p).name (option_map (λ e. judged e known) index) (look_up (out-Place p).name.bytes known)
    by None = refl
    by (Some i) = refl

pub call_is : (c : Call) (purpose : Purpose) (known : Known) →
    judged_call c purpose known ≡ judged_called purpose (out-Call c).name (all_judged known (map judged (out-Call c).arguments)) (look_up (out-Call c).name.bytes known)
unfolding judged judged_place judged_call judged_chain judged_operand judged_prefix operation_notes field_notes formal_notes
call_is c purpose known = ap (λ (f : CallJudges). f purpose known) (opens.call_opens expr_rules c)

pub operation_is : (o : Operation) (known : Known) →
    operation_notes o known ≡ operation_noted (out-Operation o).span.start (all_noted (out-Operation o).verb known (map field_notes (out-Operation o).fields))
unfolding judged judged_place judged_call judged_chain judged_operand judged_prefix operation_notes field_notes formal_notes
operation_is o known = ap (λ (f : OperationNotes). f known) (opens.operation_opens expr_rules o)

pub formal_is : (f : Formal) (verb : Verb) (known : Known) →
    formal_notes f verb known ≡ found_all (formal_faults verb) (out-Formal f).span.start ++ (judged_place (out-Formal f).target accesses.Write known).notes
unfolding judged judged_place judged_call judged_chain judged_operand judged_prefix operation_notes field_notes formal_notes
formal_is f verb known = ap (λ (g : FieldNotes). g verb known) (opens.formal_opens expr_rules f)

pub chain_is : (h : Chain) (known : Known) → judged_chain h known ≡ chained known (judged (out-Chain h).first known) (map judged_operand (out-Chain h).others)
unfolding judged judged_place judged_call judged_chain judged_operand judged_prefix operation_notes field_notes formal_notes
chain_is h known = ap (λ (f : Judges). f known) (opens.chain_opens expr_rules h)

pub link_is : (l : Link) → judged_operand l ≡ record { operator = (out-Link l).operator; operand = judged (out-Link l).operand }
unfolding judged judged_place judged_call judged_chain judged_operand judged_prefix operation_notes field_notes formal_notes
link_is l = opens.link_opens expr_rules l

-- ---- constants

pub constant_literal : (x : Literal) (known : Known) → constant_of (exprs.Literal x) known ≡ Some (plain_number x.value)
unfolding constant_of
constant_literal x known = ap (λ (f : Constants). f known) (opens.expr_literal constant_rules x)

pub constant_place_is : (x : Place) (known : Known) → constant_of (exprs.Place x) known ≡ constant_named (out-Place x).name (is_there (out-Place x).index) known
unfolding constant_of
constant_place_is x known =
    (ap (λ (f : Constants). f known) (opens.expr_place constant_rules x)
    ∙ (ap (λ (f : Constants). f known) (opens.place_opens constant_rules x) ∙ by (out-Place x).index))
  where
    by : (index : Option Expr) → constant_named (out-Place x).name (is_there (option_map constant_of index)) known ≡ constant_named (out-Place x).name (is_there index) known
    by None = refl
    by (Some i) = refl

pub constant_negate_is : (x : Prefix) (known : Known) → constant_of (exprs.Negate x) known ≡ negated_number (constant_of (out-Prefix x).operand known)
unfolding constant_of
constant_negate_is x known =
    (ap (λ (f : Constants). f known) (opens.expr_negate constant_rules x)
    ∙ ap (λ (f : Constants). negated_number (f known)) (opens.prefix_opens constant_rules x))

pub constant_call : (x : Call) (known : Known) → constant_of (exprs.Call x) known ≡ None
unfolding constant_of
constant_call x known = ap (λ (f : Constants). f known) (opens.expr_call constant_rules x)

pub constant_operation : (x : Operation) (known : Known) → constant_of (exprs.Operation x) known ≡ None
unfolding constant_of
constant_operation x known = ap (λ (f : Constants). f known) (opens.expr_operation constant_rules x)

pub constant_chain : (x : Chain) (known : Known) → constant_of (exprs.Chain x) known ≡ None
unfolding constant_of
constant_chain x known = ap (λ (f : Constants). f known) (opens.expr_chain constant_rules x)

pub constant_not : (x : Prefix) (known : Known) → constant_of (exprs.Not x) known ≡ None
unfolding constant_of
constant_not x known = ap (λ (f : Constants). f known) (opens.expr_not constant_rules x)
