-- The instruction of an operation makes the request of the tree, and what is told of the reply.
use Rattle.std.proofs.Common.{◌≡◌, ℕ, suc, ◌+◌, Bool, true, false, List, [], ◌∷◌, ◌++◌, length, Some, None, refl, ap, ◌∙◌, arith, map, append-nil}
use Rattle.std.specs.Prelude.{ℤ, slice_get, ◌&&◌, if◌then◌else◌, Ok, Err}
use Rattle.std.specs.List.{AllByRecursion}
use Rattle.cl_value.specs.declared.value.Value.{Value}
use Rattle.cl_value.specs.declared.value.Value.TheVariants as values
use Rattle.cl_value.specs.declared.value.FieldType.{FieldType}
use Rattle.cl_value.specs.declared.value.FieldType.TheVariants as types'
use Rattle.cl_value.specs.Matching.{type_of, same_type, matches}
use Rattle.cl_value.specs.Plain.{PlainAsk, Out}
use Rattle.cl_value.specs.declared.template.Slot.TheVariants as slots
use Rattle.cl_value.specs.declared.process.Trap.TheVariants.{Overflow}
use Rattle.cl_ast.specs.declared.tree.TypeName.{TypeName}
use Rattle.cl_ast.specs.declared.tree.TypeName.TheVariants as types
use Rattle.cl_listing.specs.Names.{Name}
use Rattle.cl_model.specs.Doing.{Steps, Gives, Prints, Asks, Stops, State, then_do, ◌>>=◌, ◌>>◌, pure, ask, checked, Checked}
use Rattle.cl_model.specs.Numbers.{number, and_then}
use Rattle.cl_meaning.specs.Operators.{field_type}
use Rattle.cl_meaning.specs.Operations.{Aim, Holds, Fills, slot}
use Rattle.cl_meaning.specs.Operations as meaning
use Rattle.cl_sig.specs.Signatures.{PlainSignature}
use Rattle.cl_sig.specs.declared.signature.Kind.TheVariants as kinds
use Rattle.cl_sig.specs.declared.signature.Mark.{Mark}
use Rattle.cl_code.specs.Plain.{PlainProgram}
use Rattle.cl_code.specs.Sites as sites
use Rattle.cl_code.specs.Sites.{Place, places_at, takes, fields_of, as_value, told, formals_in, received, values_of, slots_of}
use Rattle.cl_code.specs.Machine.{Cells, Does, Stack, Frame, On, Way, pushed, popped, effect, follow, machine, performs, requests, may_ask}
use Rattle.cl_code.specs.Following.{follows}
use Rattle.cl_code.specs.declared.instr.Instr.TheVariants as code
use Rattle.cl_translation.specs.Layout.{Layout}
use Rattle.cl_translation.specs.Stands.{IsIn}
use Rattle.cl_translation.proofs.Means.{Goes}
use Rattle.cl_translation.proofs.Steps.{at}
use Rattle.cl_translation.proofs.Fields.{TargetIs, AimsAre, NoAims, Known, Evaluated, Receives}
use Rattle.cl_value.specs.Ranges.{IsWithin}
use Rattle.cl_translation.specs.Lying.{Has, Target}
use Rattle.cl_translation.proofs.Bare.{HasNoCalls}

abbrev pub plain : Mark → Place
plain mark = record { mark = mark; call = None }

abbrev pub to_field : Aim → sites.Field
to_field (Holds v) = sites.Holds v
to_field (Fills of name k) = sites.Asks (field_type of)

-- a number of a type is the value again
pub as_value_is : (of : TypeName) (v : Value) → IsIn of v → as_value (field_type of) (number v) ≡ Ok v
as_value_is types.Int (values.Int n) h = ap (λ test. if test then Ok (values.Int n) else Err Overflow) h.within
as_value_is types.Long (values.Long n) h = ap (λ test. if test then Ok (values.Long n) else Err Overflow) h.within
as_value_is types.Char (values.Char n) h = ap (λ test. if test then Ok (values.Char n) else Err Overflow) h.within
as_value_is types.Int (values.Long n) h = absurd (let e = h.type in cc)
as_value_is types.Int (values.Char n) h = absurd (let e = h.type in cc)
as_value_is types.Int (values.Text n) h = absurd (let e = h.type in cc)
as_value_is types.Long (values.Int n) h = absurd (let e = h.type in cc)
as_value_is types.Long (values.Char n) h = absurd (let e = h.type in cc)
as_value_is types.Long (values.Text n) h = absurd (let e = h.type in cc)
as_value_is types.Char (values.Int n) h = absurd (let e = h.type in cc)
as_value_is types.Char (values.Long n) h = absurd (let e = h.type in cc)
as_value_is types.Char (values.Text n) h = absurd (let e = h.type in cc)

module _ (p : PlainProgram) (layout : Layout) (all : List ℤ) where
  takes_is : {ms : List Mark} {aims : List Aim} {ns : List ℤ} {ts : List Target} → AimsAre layout all ms aims ns ts → takes p (map plain ms) ≡ length ns
  takes_is NoAims = refl
  takes_is (Known c ms aims ns ts rest) = omega (arith, takes_is rest)
  takes_is (Evaluated of v ms aims ns ts fit rest) = omega (arith, takes_is rest)
  takes_is (Receives of name k target ms aims ns ts is rest) = omega (arith, takes_is rest)

  fields_are : {ms : List Mark} {aims : List Aim} {ns : List ℤ} {ts : List Target} → AimsAre layout all ms aims ns ts → fields_of p (map plain ms) ns ≡ Ok (map to_field aims)
  fields_are NoAims = refl
  fields_are (Known c ms aims ns ts rest) = ap (λ x. and_then x (λ fields. Ok (sites.Holds c ∷ fields))) (fields_are rest)
  fields_are (Evaluated of v ms aims ns ts fit rest) =
      ap (λ x. and_then (and_then x (λ w. Ok (sites.Holds w))) (λ field. and_then (fields_of p (map plain ms) ns) (λ fields. Ok (field ∷ fields)))) (as_value_is of v fit)
      ∙ ap (λ x. and_then x (λ fields. Ok (sites.Holds v ∷ fields))) (fields_are rest)
  fields_are (Receives of name k target ms aims ns ts is rest) = ap (λ x. and_then x (λ fields. Ok (sites.Asks (field_type of) ∷ fields))) (fields_are rest)

  pub formals_count : {ms : List Mark} {aims : List Aim} {ns : List ℤ} {ts : List Target} → AimsAre layout all ms aims ns ts → formals_in ms ≡ length ts
  formals_count NoAims = refl
  formals_count (Known c ms aims ns ts rest) = formals_count rest
  formals_count (Evaluated of v ms aims ns ts fit rest) = formals_count rest
  formals_count (Receives of name k target ms aims ns ts is rest) = ap suc (formals_count rest)

same_values : (aims : List Aim) → values_of (map to_field aims) ≡ meaning.values_of aims
same_values [] = refl
same_values (Holds v ∷ aims) = ap (λ vs. v ∷ vs) (same_values aims)
same_values (Fills of name k ∷ aims) = same_values aims

pub same_slots : (aims : List Aim) → slots_of (map to_field aims) ≡ map slot aims
same_slots [] = refl
same_slots (Holds v ∷ aims) = ap (λ vs. slots.Actual v ∷ vs) (same_slots aims)
same_slots (Fills of name k ∷ aims) = ap (λ vs. slots.Formal (field_type of) ∷ vs) (same_slots aims)

-- ---- what is popped was pushed

pops : (ns acc : List ℤ) (stack : Stack) (go : List ℤ → Stack → Does Way) (count k : ℕ) → count ≡ length ns + k → popped count acc (pushed ns stack) go ≡ popped k (ns ++ acc) stack go
unfolding popped
pops [] acc stack go count k e = let h : count ≡ k = omega (arith, e) in ap (λ n. popped n acc stack go) h
pops (n ∷ ns) acc stack go count k e = pops ns acc (n ∷ stack) go count (suc k) (omega (arith, e))

pub pops_all : (ns : List ℤ) (stack : Stack) (go : List ℤ → Stack → Does Way) (count : ℕ) → count ≡ length ns → popped count [] (pushed ns stack) go ≡ go ns stack
unfolding popped
pops_all ns stack go count e = pops ns [] stack go count 0 (omega (arith, e)) ∙ ap (λ l. go l stack) (append-nil ns)

-- ---- the request

module _ (p : PlainProgram) (depth : ℕ) (goes : Goes p depth) (frames : List Frame) (layout : Layout) (all : List ℤ) where
  performs_is : (number : ℕ) (site : PlainSignature) → HasNoCalls p number site → {aims : List Aim} {ns : List ℤ} {ts : List Target} → AimsAre layout all site.fields aims ns ts → (stack : Stack) →
      performs p depth number (Some site) (pushed ns stack) ≡ requests depth number site (sites.asked site.kind (map to_field aims)) stack
  unfolding performs ◌>>=◌ then_do checked pure
  performs_is number site plainly {aims = aims} {ns = ns} are stack =
      ap (λ places. popped (takes p places) [] (pushed ns stack) (λ xs rest. checked (fields_of p places xs) >>= (λ fields. requests depth number site (sites.asked site.kind fields) rest))) plainly
      ∙ (pops_all ns stack (λ xs rest. checked (fields_of p (map plain site.fields) xs) >>= (λ fields. requests depth number site (sites.asked site.kind fields) rest)) (takes p (map plain site.fields)) (takes_is p layout all are)
      ∙ ap (λ c. checked c >>= (λ fields. requests depth number site (sites.asked site.kind fields) stack)) (fields_are p layout all are))

  asks_is : (b number : ℕ) (site : PlainSignature) (operation : PlainAsk) (stack : Stack) (t : State Cells) (test : Bool) → test ≡ true →
      then_do ((if test then (ask (record { site = number; ask = operation }) >>= (λ reply. pure (On (pushed (told site reply) stack)))) else Rattle.cl_model.specs.Doing.trap Rattle.cl_value.specs.declared.process.Trap.TheVariants.EvalDepth) t) (follows p depth frames b)
      ≡ Asks (record { site = number; ask = operation }) (λ reply. machine p depth frames b (pushed (told site reply) stack) t)
  unfolding ◌>>=◌ then_do ask pure follow
  asks_is b number site operation stack t true is = refl
  asks_is b number site operation stack t false is = absurd cc

  -- at the instruction the request is made, and what is told is pushed
  pub performs_request : (b number : ℕ) (site : PlainSignature) → Has p b (code.Perform number) → slice_get p.sites number ≡ Some site → HasNoCalls p number site → may_ask site.kind depth ≡ true → {aims : List Aim} {ns : List ℤ} {ts : List Target} → AimsAre layout all site.fields aims ns ts → (stack : Stack) (t : State Cells) →
      machine p depth frames b (pushed ns stack) t ≡ Asks (record { site = number; ask = sites.asked site.kind (map to_field aims) }) (λ reply. machine p depth frames (suc b) (pushed (told site reply) stack) t)
  unfolding effect requests
  performs_request b number site h there plainly may {aims = aims} {ns = ns} are stack t =
      at p depth goes frames b (code.Perform number) h (pushed ns stack) t
      ∙ (ap (λ o. then_do (performs p depth number o (pushed ns stack) t) (follows p depth frames (suc b))) there
      ∙ (ap (λ d. then_do (d t) (follows p depth frames (suc b))) (performs_is number site plainly are stack)
      ∙ asks_is (suc b) number site (sites.asked site.kind (map to_field aims)) stack t (may_ask site.kind depth) may))

-- the same request
pub out_asked : (aims : List Aim) → sites.asked kinds.Out (map to_field aims) ≡ Out (meaning.values_of aims)
out_asked aims = ap Out (same_values aims)

-- ---- the reply

-- a tuple beside fields that were read: where each formal's value goes, and its number
pub data Fillings (layout : Layout) (all : List ℤ) : List Aim → List Value → List Target → List ℤ → Type 0 where
  NoFilling : Fillings layout all [] [] [] []
  Skipping : (v w : Value) (aims : List Aim) (ws : List Value) (ts : List Target) (ns : List ℤ) → Fillings layout all aims ws ts ns → Fillings layout all (Holds v ∷ aims) (w ∷ ws) ts ns
  Filling : (of : TypeName) (name : Name) (k : ℕ) (w : Value) (target : Target) (aims : List Aim) (ws : List Value) (ts : List Target) (ns : List ℤ) → TargetIs layout all target of name k → IsIn of w → Fillings layout all aims ws ts ns →
      Fillings layout all (Fills of name k ∷ aims) (w ∷ ws) (target ∷ ts) (number w ∷ ns)

both_true : (a b : Bool) → (a && b) ≡ true → (a ≡ true) × (b ≡ true)
both_true true b h = (refl, h)
both_true false b h = absurd cc

same_types : (a b : FieldType) → same_type a b ≡ true → b ≡ a
same_types types'.Int types'.Int h = refl
same_types types'.Long types'.Long h = refl
same_types types'.Char types'.Char h = refl
same_types types'.Text types'.Text h = refl
same_types types'.Int types'.Long h = absurd cc
same_types types'.Int types'.Char h = absurd cc
same_types types'.Int types'.Text h = absurd cc
same_types types'.Long types'.Int h = absurd cc
same_types types'.Long types'.Char h = absurd cc
same_types types'.Long types'.Text h = absurd cc
same_types types'.Char types'.Int h = absurd cc
same_types types'.Char types'.Long h = absurd cc
same_types types'.Char types'.Text h = absurd cc
same_types types'.Text types'.Int h = absurd cc
same_types types'.Text types'.Long h = absurd cc
same_types types'.Text types'.Char h = absurd cc

pub fillings : (layout : Layout) (all : List ℤ) {ms : List Mark} {aims : List Aim} {ns : List ℤ} {ts : List Target} → AimsAre layout all ms aims ns ts → (ws : List Value) → matches (map slot aims) ws ≡ true → AllByRecursion IsWithin ws → Fillings layout all aims ws ts (received ms ws)
fillings layout all NoAims [] h within = NoFilling
fillings layout all NoAims (w ∷ ws) h within = absurd cc
fillings layout all (Known c ms aims ns ts rest) [] h within = absurd cc
fillings layout all (Known c ms aims ns ts rest) (w ∷ ws) h within = Skipping c w aims ws ts (received ms ws) (fillings layout all rest ws (both_true _ _ h).1 within.1)
fillings layout all (Evaluated of v ms aims ns ts fit rest) [] h within = absurd cc
fillings layout all (Evaluated of v ms aims ns ts fit rest) (w ∷ ws) h within = Skipping v w aims ws ts (received ms ws) (fillings layout all rest ws (both_true _ _ h).1 within.1)
fillings layout all (Receives of name k target ms aims ns ts is rest) [] h within = absurd cc
fillings layout all (Receives of name k target ms aims ns ts is rest) (w ∷ ws) h within =
    Filling of name k w target aims ws ts (received ms ws) is (record { type = same_types (field_type of) (type_of w) (both_true _ _ h).0; within = within.0 }) (fillings layout all rest ws (both_true _ _ h).1 within.1)
