-- Small programs are valid where they keep the rules, and a process that one of them makes may begin at any depth.
use Rattle.std.proofs.Common.{◌≡◌, ◌≤◌, ◌<◌, ℕ, zero, suc, Bool, true, false, List, [], ◌∷◌, Option, Some, refl, sym, ap, ◌∙◌, subst, arith, length, map}
use Rattle.std.proofs.lemmas.Bool.{le-leb}
use Rattle.std.specs.Prelude.{◌&&◌, ◌↔◌, not, nat_le, if◌then◌else◌, slice_get}
use Rattle.cl_value.specs.Plain.{PlainPart, Lives}
use Rattle.cl_sig.specs.Chains.{SameSet, may_pair}
use Rattle.cl_sig.specs.Classes.{class, members}
use Rattle.cl_sig.specs.Fields.{all_below}
use Rattle.cl_sig.specs.Signatures.{PlainSignature, is_producer, may_match}
use Rattle.cl_sig.specs.declared.shape.Class.{Class}
use Rattle.cl_sig.specs.declared.shape.Class.TheVariants as classes
use Rattle.cl_code.specs.Plain.{PlainFunction, PlainProgram, plain_function}
use Rattle.cl_code.specs.Rules.{has, keeps_rules}
use Rattle.cl_code.specs.Starts.{live_fits, start_fits}
use Rattle.cl_code.specs.Valid.{Valid, lists_are_short, site_is_typed}
use Rattle.cl_code.specs.declared.function.Function.{Function}
use Rattle.cl_code.specs.declared.instr.Instr.{Instr}
use Rattle.cl_code.proofs.Tests.{left, right}
use Rattle.cl_ground.specs.declared.limits.TheConstants.{MOST_DEPTH}
use Rattle.test_machine.specs.Small.{IsRight, is_queue, is_right, paired}

abbrev of_first : List ℕ
of_first = 0 ∷ 0 ∷ []

either_order : (a b ab ba : Bool) → (if a then not b && ab else b && ba) ≡ (if b then not a && ba else a && ab)
either_order true true ab ba = refl
either_order true false ab ba = refl
either_order false true ab ba = refl
either_order false false ab ba = refl

module _ (producer consumer : PlainSignature) (pair : may_pair producer consumer ≡ true) where
  back : may_pair consumer producer ≡ true
  back = either_order (is_producer consumer.kind) (is_producer producer.kind) (may_match consumer producer) (may_match producer consumer) ∙ pair

  chained : (a b : ℕ) → a < 2 → b < 2 → (slice_get of_first a ≡ slice_get of_first b) ↔ SameSet (producer ∷ consumer ∷ []) a b
  chained zero zero h k = (λ e. ([], refl), λ path. refl)
  chained zero (suc zero) h k = (λ e. (1 ∷ [], (pair, refl)), λ path. refl)
  chained (suc zero) zero h k = (λ e. (0 ∷ [], (back, refl)), λ path. refl)
  chained (suc zero) (suc zero) h k = (λ e. ([], refl), λ path. refl)
  chained zero (suc (suc b)) h k = absurd (omega (arith, k))
  chained (suc zero) (suc (suc b)) h k = absurd (omega (arith, k))
  chained (suc (suc a)) b h k = absurd (omega (arith, h))

queue_is : (c : Class) → is_queue c ≡ true → classes.Queue ≡ c
queue_is c h = grind arith

one_class : (producer consumer : PlainSignature) → is_queue (class (producer ∷ consumer ∷ [])) ≡ true → (set : ℕ) → set < 1 → slice_get (classes.Queue ∷ []) set ≡ Some (class (members (producer ∷ consumer ∷ []) of_first set))
one_class producer consumer e zero h = ap Some (queue_is (class (producer ∷ consumer ∷ [])) e)
one_class producer consumer e (suc set) h = absurd (omega (arith, h))

pub paired_valid : (code : List Instr) (heights : List ℕ) (functions : List PlainFunction) (producer consumer : PlainSignature) (calls : List (Option ℕ)) (format : List ℕ) → is_right producer consumer (paired code heights functions producer consumer calls format) ≡ true → Valid (paired code heights functions producer consumer calls format)
paired_valid code heights functions producer consumer calls format h =
    let p : PlainProgram = paired code heights functions producer consumer calls format in
    let typed = right (keeps_rules p) _ h in
    let short = right (all_below (length p.sites) (site_is_typed p)) _ typed in
    let pair = right (lists_are_short p) _ short in
    record {
      rules = left (keeps_rules p) _ h;
      typed = left (all_below (length p.sites) (site_is_typed p)) _ typed;
      sets = record { all = refl; chains = chained producer consumer (left (may_pair producer consumer) _ pair); order = refl };
      class_count = refl;
      classes = one_class producer consumer (right (may_pair producer consumer) _ pair);
      short = left (lists_are_short p) _ short;
    }

-- functions that are known
pub one_function : (all : List Function) {f : Function} {a : PlainFunction} → all ≡ f ∷ [] → plain_function f ≡ a → map plain_function all ≡ a ∷ []
one_function all e f = ap (map plain_function) e ∙ ap (λ x. x ∷ []) f

pub two_functions : (all : List Function) {f g : Function} {a b : PlainFunction} → all ≡ f ∷ g ∷ [] → plain_function f ≡ a → plain_function g ≡ b → map plain_function all ≡ a ∷ b ∷ []
two_functions all {f} {g} {a} {b} e x y = ap (map plain_function) e ∙ (ap (λ (z : PlainFunction). z ∷ plain_function g ∷ []) x ∙ ap (λ (z : PlainFunction). a ∷ z ∷ []) y)

pub three_functions : (all : List Function) {f g h : Function} {a b d : PlainFunction} → all ≡ f ∷ g ∷ h ∷ [] → plain_function f ≡ a → plain_function g ≡ b → plain_function h ≡ d → map plain_function all ≡ a ∷ b ∷ d ∷ []
three_functions all {f} {g} {h} {a} {b} {d} e x y z = ap (map plain_function) e ∙ (ap (λ (w : PlainFunction). w ∷ plain_function g ∷ plain_function h ∷ []) x ∙ (ap (λ (w : PlainFunction). a ∷ w ∷ plain_function h ∷ []) y ∙ ap (λ (w : PlainFunction). a ∷ b ∷ w ∷ []) z))

-- what is equal to parts of a program that is right
pub is_right_by : (code : List Instr) (heights : List ℕ) (calls : List (Option ℕ)) (format : List ℕ) (fs gs : List PlainFunction) (a b c d : PlainSignature) → fs ≡ gs → a ≡ b → c ≡ d → is_right b d (paired code heights gs b d calls format) ≡ true → IsRight code heights fs a c calls format
is_right_by code heights calls format fs gs a b c d e f g h =
    subst (λ (x : List PlainFunction). IsRight code heights x a c calls format) (sym e)
    (subst (λ (x : PlainSignature). IsRight code heights gs x c calls format) (sym f)
    (subst (λ (x : PlainSignature). IsRight code heights gs b x calls format) (sym g) (record { right = h })))

-- ---- another depth

three_hold : (a b c : Bool) → a ≡ true → b ≡ true → c ≡ true → (a && (b && c)) ≡ true
three_hold true true true e f g = refl
three_hold true true false e f g = absurd cc
three_hold true false c e f g = absurd cc
three_hold false b c e f g = absurd cc

pub at_depth : (p : PlainProgram) (site : ℕ) (live : List PlainPart) (other depth : ℕ) → 1 ≤ depth → depth ≤ MOST_DEPTH → start_fits p (Lives site live other) ≡ true → start_fits p (Lives site live depth) ≡ true
at_depth p site live other depth some few h = three_hold (has (live_fits p site live) (slice_get p.sites site)) (nat_le 1 depth) (nat_le depth MOST_DEPTH) (left _ _ h) (le-leb 1 depth some) (le-leb depth MOST_DEPTH few)
