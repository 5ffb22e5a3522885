-- Rows of the rules of a valid program, by computing: a program that keeps them, and what breaks each of them at its place.
use Rattle.std.proofs.Common.{◌≡◌, ℕ, List, [], ◌∷◌, refl, arith}
use Rattle.std.specs.Prelude.{true, false, codes, pos, Some, None, map, replicate}
use Rattle.cl_value.specs.declared.value.Value.TheVariants as values
use Rattle.cl_value.specs.declared.value.FieldType.TheVariants as types
use Rattle.cl_sig.specs.Signatures.{PlainSignature}
use Rattle.cl_sig.specs.declared.signature.Kind.{Kind}
use Rattle.cl_sig.specs.declared.signature.Kind.TheVariants as kinds
use Rattle.cl_sig.specs.declared.signature.Mark.{Mark}
use Rattle.cl_sig.specs.declared.signature.Mark.TheVariants as marks
use Rattle.cl_code.specs.Plain.{PlainFunction, PlainProgram}
use Rattle.cl_code.specs.Formats.{Byte, Decimal, Character, pieces}
use Rattle.cl_code.specs.Rules.{keeps_rules, rule_1, rule_2, rule_3, rule_4, rule_5, rule_6, rule_7, rule_8}
use Rattle.cl_code.specs.Valid.{site_is_typed, lists_are_short, Valid}
use Rattle.cl_code.specs.declared.instr.Instr.{Instr}
use Rattle.cl_code.specs.declared.instr.Instr.TheVariants.{PushInt, LoadLocal, LoadGlobal, Clear, CheckIndex, Not, Jump, JumpZero, Tick, Call, Return, Pop, Print, Perform}

-- ---- a program: real_main() { eval("x", g(5)); return 0; } int g(int n) { return n; }

abbrev pub main : PlainFunction
main = record { name = codes "real_main"; entry = 0; parameters = []; gives = Some types.Int; cells = 0; temporaries = 0; stack = 2 }

abbrev pub g : PlainFunction
g = record { name = codes "g"; entry = 4; parameters = types.Int ∷ []; gives = Some types.Int; cells = 1; temporaries = 1; stack = 2 }

abbrev pub site : Kind → List Mark → PlainSignature
site kind fields = record { kind = kind; fields = fields; place = 0 }

abbrev pub body : List Instr
body = PushInt (pos 5) ∷ Perform 0 ∷ PushInt (pos 0) ∷ Return ∷ LoadLocal 0 ∷ Return ∷ []

abbrev pub heights : List ℕ
heights = 0 ∷ 1 ∷ 0 ∷ 1 ∷ 0 ∷ 1 ∷ []

abbrev pub right : PlainProgram
right =
    record {
      code = body;
      heights = heights;
      functions = main ∷ g ∷ [];
      main = 0;
      globals = [];
      texts = codes "x" ∷ [];
      formats = codes "%d" ∷ [];
      sites = site kinds.Eval (marks.Constant (values.Text 0) ∷ marks.Actual types.Int ∷ []) ∷ [];
      calls = (None ∷ Some 1 ∷ []) ∷ [];
      sets = 0 ∷ [];
      classes = [];
    }

keeps : keeps_rules right ≡ true
keeps = refl

is_typed : site_is_typed right 0 ≡ true
is_typed = refl

is_short : lists_are_short right ≡ true
is_short = refl

-- ---- the same with another part

abbrev with_functions : List PlainFunction → PlainProgram
with_functions functions = record right { functions = functions }

abbrev with_site : Kind → List Mark → PlainProgram
with_site kind fields = record right { sites = site kind fields ∷ [] }

-- with other instructions of `g`, and their heights
abbrev with_g : List Instr → List ℕ → PlainProgram
with_g code behind = record right { code = PushInt (pos 5) ∷ Perform 0 ∷ PushInt (pos 0) ∷ Return ∷ code; heights = 0 ∷ 1 ∷ 0 ∷ 1 ∷ behind }

-- ---- rule 1

-- no function; a beginning that isn't there, and one that has a parameter
rule_1_fails : map rule_1 (with_functions [] ∷ record right { main = 2 } ∷ record right { main = 1 } ∷ []) ≡ replicate 3 false
rule_1_fails = refl

-- 65,537 global cells, and one more
most_globals : rule_1 (record right { globals = replicate 65537 (pos 0) }) ≡ true
most_globals = refl

too_many_globals : rule_1 (record right { globals = replicate 65538 (pos 0) }) ≡ false
too_many_globals = refl

-- ---- rule 2

-- at function 0: an entry behind the first address
first_entry : rule_2 (with_functions (record main { entry = 1 } ∷ g ∷ [])) 0 ≡ false
first_entry = refl

-- at function 1: an entry that doesn't rise, one past the code, a parameter of text, more parameters than cells, too many cells
rule_2_fails : map (λ f. rule_2 (with_functions (main ∷ f ∷ [])) 1) (record g { entry = 0 } ∷ record g { entry = 6 } ∷ record g { parameters = types.Text ∷ [] } ∷ record g { cells = 0 } ∷ record g { cells = 65538 } ∷ []) ≡ replicate 5 false
rule_2_fails = refl

-- ---- rule 3

-- no field; a text that isn't there; a formal in `eval` and in `out`; a call in `out`
rule_3_fails : map (λ p. rule_3 p 0) (with_site kinds.Eval [] ∷ with_site kinds.Eval (marks.Constant (values.Text 1) ∷ []) ∷ with_site kinds.Eval (marks.Formal types.Int ∷ []) ∷ with_site kinds.Out (marks.Formal types.Int ∷ []) ∷ with_site kinds.Out (marks.Constant (values.Text 0) ∷ marks.Actual types.Int ∷ []) ∷ []) ≡ replicate 5 false
rule_3_fails = refl

-- a called function that isn't there, and one that gives nothing
rule_3_fails_at_a_call : map (λ p. rule_3 p 0) (record right { calls = (None ∷ Some 2 ∷ []) ∷ [] } ∷ with_functions (main ∷ record g { gives = None } ∷ []) ∷ []) ≡ replicate 2 false
rule_3_fails_at_a_call = refl

-- a call of another type, and an actual of text, keep the rule and aren't typed
not_typed : map (λ p. site_is_typed p 0) (with_site kinds.Eval (marks.Constant (values.Text 0) ∷ marks.Actual types.Long ∷ []) ∷ with_site kinds.Eval (marks.Actual types.Text ∷ []) ∷ []) ≡ replicate 2 false
not_typed = refl

-- ---- rule 4

-- a `%` at the end, before another letter, and before an `l` alone
rule_4_fails : map pieces (codes "%" ∷ codes "%x" ∷ codes "%lx" ∷ codes "a%l" ∷ []) ≡ replicate 4 None
rule_4_fails = refl

split : pieces (codes "%%%ld%c!") ≡ Some (Byte 37 ∷ Decimal ∷ Character ∷ Byte 33 ∷ [])
split = refl

rule_4_asks_there : map (rule_4 right) (0 ∷ 1 ∷ []) ≡ true ∷ false ∷ []
rule_4_asks_there = refl

-- ---- rule 5

rule_5_fails : rule_5 (record right { heights = [] }) ≡ false
rule_5_fails = refl

-- ---- rule 6, at address 4

-- a cell past the temporaries, a global, a length past the cells, a jump to itself, into the other function and past the end, and what isn't there
rule_6_fails : map (λ i. rule_6 (with_g (i ∷ Return ∷ []) (0 ∷ 1 ∷ [])) 4) (LoadLocal 2 ∷ LoadGlobal 0 ∷ Clear 1 2 ∷ Jump 4 ∷ Jump 3 ∷ Jump 6 ∷ Call 2 ∷ Print 1 ∷ Perform 1 ∷ []) ≡ replicate 9 false
rule_6_fails = refl

-- a temporary, all cells, any length to check, and forward
rule_6_holds : map (λ i. rule_6 (with_g (i ∷ Return ∷ []) (0 ∷ 1 ∷ [])) 4) (LoadLocal 1 ∷ Clear 0 2 ∷ CheckIndex 100000 ∷ Jump 5 ∷ Call 1 ∷ Print 0 ∷ Perform 0 ∷ []) ≡ replicate 7 true
rule_6_holds = refl

-- back to a tick
back_to_a_tick : rule_6 (with_g (Tick ∷ Jump 4 ∷ []) (0 ∷ 0 ∷ [])) 5 ≡ true
back_to_a_tick = refl

-- ---- rule 7

-- an entry that has a number; one number too few; another height behind; a stack that is too small
rule_7_fails : map (λ p. rule_7 p 4) (with_g (LoadLocal 0 ∷ Return ∷ []) (1 ∷ 2 ∷ []) ∷ with_g (Pop ∷ Return ∷ []) (0 ∷ 1 ∷ []) ∷ with_g (LoadLocal 0 ∷ Return ∷ []) (0 ∷ 2 ∷ []) ∷ with_functions (main ∷ record g { stack = 0 } ∷ []) ∷ []) ≡ replicate 4 false
rule_7_fails = refl

-- both successors of a jump on zero
both_ways : map (λ there. rule_7 (with_g (LoadLocal 0 ∷ JumpZero 7 ∷ Tick ∷ Return ∷ []) (0 ∷ 1 ∷ 0 ∷ there ∷ [])) 5) (0 ∷ 1 ∷ []) ≡ true ∷ false ∷ []
both_ways = refl

-- ---- rule 8

-- a last instruction that goes on, in either function; two numbers at a return
falls_out : map (λ a. rule_8 (with_g (LoadLocal 0 ∷ Not ∷ []) (0 ∷ 1 ∷ [])) a) (3 ∷ 4 ∷ 5 ∷ []) ≡ true ∷ true ∷ false ∷ []
falls_out = refl

returns_two : rule_8 (with_g (LoadLocal 0 ∷ Return ∷ []) (0 ∷ 2 ∷ [])) 5 ≡ false
returns_two = refl

-- ---- a valid program without operations: return 0;

abbrev pub nothing : PlainProgram
nothing = record right { code = PushInt (pos 0) ∷ Return ∷ []; heights = 0 ∷ 1 ∷ []; functions = main ∷ []; sites = []; calls = []; sets = [] }

pub is_valid : Valid nothing
is_valid = record {
  rules = refl;
  typed = refl;
  sets = record { all = refl; chains = λ a b h k. absurd (omega (arith, h)); order = refl };
  class_count = refl;
  classes = λ set h. absurd (omega (arith, h));
  short = refl;
}
