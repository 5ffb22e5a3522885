-- Conversions, and what is stored.
use Rattle.std.proofs.Common.{◌≡◌, ℕ, zero, suc, ◌+◌, ◌-◌, ◌^◌, ◌<◌, Bool, true, false, List, [], ◌∷◌, ◌++◌, length, Option, Some, None, refl, sym, ap, subst, ◌∙◌, arith, map, ltb-true, mod-lt, lt-ltb}
use Rattle.std.specs.Prelude.{ℤ, pos, negsuc, nat_lt, ◌%◌, slice_set, if◌then◌else◌, Ok, Err}
use Rattle.cl_value.specs.declared.process.Trap.TheVariants.{Overflow}
use Rattle.cl_value.specs.declared.value.Value.{Value}
use Rattle.cl_value.specs.declared.value.Value.TheVariants as values
use Rattle.cl_ast.specs.declared.tree.TypeName.{TypeName}
use Rattle.cl_ast.specs.declared.tree.TypeName.TheVariants as types
use Rattle.cl_listing.specs.Names.{Name}
use Rattle.cl_model.specs.Doing.{Steps, Gives, Stops, State, then_do, ◌>>=◌, ◌>>◌, pure, checked, Checked, variables, set_variables, trap}
use Rattle.cl_model.specs.Doing as doing
use Rattle.cl_model.specs.Numbers.{number, byte_of}
use Rattle.cl_meaning.specs.Operators.{converted}
use Rattle.cl_meaning.specs.Variables.{Variables, found, with_element, changed}
use Rattle.cl_meaning.specs.Operations.{store, variable}
use Rattle.cl_code.specs.Plain.{PlainProgram}
use Rattle.cl_code.specs.Arithmetic.{fitting}
use Rattle.cl_code.specs.Machine.{Cells, Stack, Where, Local, Global, cells_at, with_cells, On, Lost, Frame, Ending, effect, follow, machine, on_one, stores, puts, stores_at, index_of}
use Rattle.cl_code.specs.Following.{follows}
use Rattle.cl_code.specs.declared.instr.Instr.TheVariants as code
use Rattle.cl_translation.proofs.Alike.{Same}
use Rattle.cl_translation.specs.Layout as layouts
use Rattle.cl_translation.specs.Layout.{Layout, spot}
use Rattle.cl_translation.specs.Stands.{IsIn, Stands}
use Rattle.cl_translation.specs.Chosen as chosen
use Rattle.cl_translation.specs.Chosen.{conversion}
use Rattle.cl_translation.proofs.Means.{Goes, End, converted_number}
use Rattle.cl_translation.proofs.Notation.{left_is, right_is, same_trap, lost}
use Rattle.cl_translation.proofs.Spots.{AtSpot}
use Rattle.cl_translation.proofs.States.{found_at}
use Rattle.cl_translation.proofs.Steps.{at}
use Rattle.cl_translation.proofs.Operators.{Agree, fits_int}
use Rattle.cl_value.specs.Ranges.{is_within}
use Rattle.cl_translation.specs.Lying.{Has}
use Rattle.cl_translation.proofs.Bare.{Passing}

-- ---- ranges

wider : (n : ℤ) → is_within 31 n ≡ true → is_within 63 n ≡ true
wider (pos n) h = lt-ltb n (2 ^ 63) (omega (arith, ltb-true n (2 ^ 31) h))
wider (negsuc n) h = lt-ltb n (2 ^ 63) (omega (arith, ltb-true n (2 ^ 31) h))

pub byte_within : (n : ℕ) → nat_lt n 256 ≡ true → is_within 31 (pos n) ≡ true
byte_within n h = lt-ltb n (2 ^ 31) (omega (arith, ltb-true n 256 h))

byte_low : (n : ℤ) → nat_lt (byte_of n) 256 ≡ true
byte_low (pos n) = lt-ltb (n % 256) 256 (mod-lt n (omega arith))
byte_low (negsuc n) = lt-ltb (255 - n % 256) 256 (omega arith)

pub byte_same : (n : ℕ) → nat_lt n 256 ≡ true → byte_of (pos n) ≡ n
byte_same n h = Rattle.std.proofs.Common.mod-eq_of_lt (ltb-true n 256 h)

-- the number of a value fits a `long`
pub long_within : (of : TypeName) (v : Value) → IsIn of v → is_within 63 (number v) ≡ true
long_within of (values.Int n) h = wider n h.within
long_within of (values.Long n) h = h.within
long_within of (values.Char n) h = wider (pos n) (byte_within n h.within)
long_within types.Int (values.Text n) h = absurd (let e = h.type in cc)
long_within types.Long (values.Text n) h = absurd (let e = h.type in cc)
long_within types.Char (values.Text n) h = absurd (let e = h.type in cc)

pub converts : (of from : TypeName) (v : Value) → IsIn from v → Agree of (converted of v) (converted_number of (number v))
converts types.Int from v h = fits_int (number v) (is_within 31 (number v)) refl
converts types.Long from v h = (record { type = refl; within = long_within from v h }, refl)
converts types.Char from v h = (record { type = refl; within = byte_low (number v) }, refl)

-- a value of the type is its own conversion
int_stays : (n : ℤ) → is_within 31 n ≡ true → converted_number types.Int n ≡ Ok n
int_stays n h = ap (λ test. if test then Ok n else Err Overflow) h

pub stays : (from of : TypeName) (v : Value) → IsIn from v → conversion from of ≡ None → converted_number of (number v) ≡ Ok (number v)
stays types.Int types.Int (values.Int n) h is = int_stays n h.within
stays types.Char types.Int (values.Char n) h is = int_stays (pos n) (byte_within n h.within)
stays types.Char types.Char (values.Char n) h is = ap (λ m. Ok (pos m)) (byte_same n h.within)
stays from types.Long v h is = refl
stays types.Long types.Int v h is = absurd cc
stays types.Int types.Char v h is = absurd cc
stays types.Long types.Char v h is = absurd cc
stays types.Int types.Int (values.Long n) h is = absurd (let e = h.type in cc)
stays types.Int types.Int (values.Char n) h is = absurd (let e = h.type in cc)
stays types.Int types.Int (values.Text n) h is = absurd (let e = h.type in cc)
stays types.Char types.Int (values.Long n) h is = absurd (let e = h.type in cc)
stays types.Char types.Int (values.Int n) h is = absurd (let e = h.type in cc)
stays types.Char types.Int (values.Text n) h is = absurd (let e = h.type in cc)
stays types.Char types.Char (values.Long n) h is = absurd (let e = h.type in cc)
stays types.Char types.Char (values.Int n) h is = absurd (let e = h.type in cc)
stays types.Char types.Char (values.Text n) h is = absurd (let e = h.type in cc)

module _ (p : PlainProgram) (depth : ℕ) (A : Type 0) (F : End A) (goes : Goes p depth) (frames : List Frame) where
  -- a value or a trap, and what comes behind
  pub agreed_then : (of : TypeName) (c : Checked Value) (c' : Checked ℤ) → Agree of c c' → (K : Value → doing.Does Variables A) (G : ℤ → doing.Does Cells Ending) (s : State Variables) (t : State Cells) → ((v : Value) → IsIn of v → Same F (K v s) (G (number v) t)) →
      Same F ((checked c >>= K) s) ((checked c' >>= G) t)
  unfolding ◌>>=◌ then_do checked pure trap
  agreed_then of (Ok v) (Ok n) h K G s t go = right_is (ap (λ m. G m t) (sym h.1)) (go v h.0)
  agreed_then of (Err e) (Err e') h K G s t go = right_is (ap (λ x. Stops x) (sym h)) (same_trap F e)
  agreed_then of (Ok v) (Err e') h K G s t go = absurd h
  agreed_then of (Err e) (Ok n) h K G s t go = absurd h

  -- a conversion, or nothing where none is needed
  narrows : (b : ℕ) → Has p b code.Narrow → (n : ℤ) (stack : Stack) (t : State Cells) → machine p depth frames b (n ∷ stack) t ≡ (checked (fitting 31 n) >>= (λ m. machine p depth frames (suc b) (m ∷ stack))) t
  unfolding effect on_one ◌>>=◌ then_do checked pure trap follow
  narrows b h n stack t = at p depth goes frames b code.Narrow h (n ∷ stack) t ∙ by (fitting 31 n)
    where
      by : (c : Checked ℤ) → then_do {V = Cells} (then_do (checked c t) (λ m. pure (On (m ∷ stack)))) (follows p depth frames (suc b)) ≡ then_do (checked c t) (λ m. machine p depth frames (suc b) (m ∷ stack))
      by (Ok m) = refl
      by (Err e) = refl

  to_char : (b : ℕ) → Has p b code.ToChar → (n : ℤ) (stack : Stack) (t : State Cells) → machine p depth frames b (n ∷ stack) t ≡ machine p depth frames (suc b) (pos (byte_of n) ∷ stack) t
  unfolding effect on_one ◌>>=◌ then_do checked pure follow
  to_char b h n stack t = at p depth goes frames b code.ToChar h (n ∷ stack) t

  pub none_needed : (b c : ℕ) (from of : TypeName) (v : Value) → IsIn from v → conversion from of ≡ None → c ≡ b → (stack : Stack) (t : State Cells) → machine p depth frames b (number v ∷ stack) t ≡ (checked (converted_number of (number v)) >>= (λ n. machine p depth frames c (n ∷ stack))) t
  unfolding ◌>>=◌ then_do checked pure
  none_needed b c from of v fit is e stack t = ap (λ a. machine p depth frames a (number v ∷ stack) t) (sym e) ∙ sym (ap (λ x. then_do (checked x t) (λ n. machine p depth frames c (n ∷ stack))) (stays from of v fit is))

  pub passes : (b c : ℕ) (from of : TypeName) (v : Value) → IsIn from v → Passing p b (conversion from of) c → (stack : Stack) (t : State Cells) → machine p depth frames b (number v ∷ stack) t ≡ (checked (converted_number of (number v)) >>= (λ n. machine p depth frames c (n ∷ stack))) t
  unfolding ◌>>=◌ then_do checked pure
  passes b c types.Int types.Int v fit h stack t = none_needed b c types.Int types.Int v fit refl h stack t
  passes b c types.Int types.Long v fit h stack t = none_needed b c types.Int types.Long v fit refl h stack t
  passes b c types.Int types.Char v fit h stack t = to_char b h.0 (number v) stack t ∙ ap (λ a. machine p depth frames a (pos (byte_of (number v)) ∷ stack) t) (sym h.1)
  passes b c types.Long types.Int v fit h stack t = narrows b h.0 (number v) stack t ∙ ap (λ a. (checked (fitting 31 (number v)) >>= (λ m. machine p depth frames a (m ∷ stack))) t) (sym h.1)
  passes b c types.Long types.Long v fit h stack t = none_needed b c types.Long types.Long v fit refl h stack t
  passes b c types.Long types.Char v fit h stack t = to_char b h.0 (number v) stack t ∙ ap (λ a. machine p depth frames a (pos (byte_of (number v)) ∷ stack) t) (sym h.1)
  passes b c types.Char types.Int v fit h stack t = none_needed b c types.Char types.Int v fit refl h stack t
  passes b c types.Char types.Long v fit h stack t = none_needed b c types.Char types.Long v fit refl h stack t
  passes b c types.Char types.Char v fit h stack t = none_needed b c types.Char types.Char v fit refl h stack t

  -- ---- stores

  -- a number is put into a cell; a cell that isn't there is nobody's
  pub put : (at' : Where) (k : ℕ) (n : ℤ) (b : ℕ) (stack : Stack) (P : Steps (A × State Variables)) (t : State Cells) → (k < length (cells_at at' t.variables) → Same F P (machine p depth frames b stack (record t { variables = with_cells at' (slice_set (cells_at at' t.variables) k n) t.variables }))) →
      Same F P (then_do (puts at' k n stack t) (follows p depth frames b))
  unfolding puts ◌>>=◌ ◌>>◌ then_do variables set_variables pure follow
  put at' k n b stack P t go = by (nat_lt k (length (cells_at at' t.variables))) refl
    where
      by : (test : Bool) → nat_lt k (length (cells_at at' t.variables)) ≡ test →
          Same F P (then_do {V = Cells} ((if test then (set_variables (with_cells at' (slice_set (cells_at at' t.variables) k n) t.variables) >> pure (On stack)) else pure Lost) t) (follows p depth frames b))
      by true is = go (ltb-true k (length (cells_at at' t.variables)) is)
      by false is = lost F P t

  at_store : (b : ℕ) (at' : Where) (k : ℕ) → Has p b (chosen.store at' k) → (n : ℤ) (stack : Stack) (t : State Cells) → machine p depth frames b (n ∷ stack) t ≡ then_do (puts at' k n stack t) (follows p depth frames (suc b))
  unfolding effect stores
  at_store b Local k h n stack t = at p depth goes frames b _ h (n ∷ stack) t
  at_store b Global k h n stack t = at p depth goes frames b _ h (n ∷ stack) t

  pub stored : (b : ℕ) (at' : Where) (k : ℕ) → Has p b (chosen.store at' k) → (n : ℤ) (stack : Stack) (P : Steps (A × State Variables)) (t : State Cells) → (k < length (cells_at at' t.variables) → Same F P (machine p depth frames (suc b) stack (record t { variables = with_cells at' (slice_set (cells_at at' t.variables) k n) t.variables }))) →
      Same F P (machine p depth frames b (n ∷ stack) t)
  stored b at' k h n stack P t go = right_is (at_store b at' k h n stack t) (put at' k n (suc b) stack P t go)

  at_store_at : (b : ℕ) (at' : Where) (base size : ℕ) → Has p b (chosen.store_at at' base size) → (n x : ℤ) (stack : Stack) (t : State Cells) → machine p depth frames b (n ∷ x ∷ stack) t ≡ then_do ((checked (index_of x size) >>= (λ k. puts at' (base + k) n stack)) t) (follows p depth frames (suc b))
  unfolding effect stores_at
  at_store_at b Local base size h n x stack t = at p depth goes frames b _ h (n ∷ x ∷ stack) t
  at_store_at b Global base size h n x stack t = at p depth goes frames b _ h (n ∷ x ∷ stack) t

  pub stored_at : (b : ℕ) (at' : Where) (base size k : ℕ) → Has p b (chosen.store_at at' base size) → k < size → (n : ℤ) (stack : Stack) (P : Steps (A × State Variables)) (t : State Cells) →
      (base + k < length (cells_at at' t.variables) → Same F P (machine p depth frames (suc b) stack (record t { variables = with_cells at' (slice_set (cells_at at' t.variables) (base + k) n) t.variables }))) →
      Same F P (machine p depth frames b (n ∷ pos k ∷ stack) t)
  unfolding ◌>>=◌ then_do checked pure
  stored_at b at' base size k h lt n stack P t go =
      right_is (at_store_at b at' base size h n (pos k) stack t ∙ ap (λ test. then_do (then_do (checked (if test then Ok k else Err Rattle.cl_value.specs.declared.process.Trap.TheVariants.IndexRange) t) (λ m. puts at' (base + m) n stack)) (follows p depth frames (suc b))) (lt-ltb k size lt))
      (put at' (base + k) n (suc b) stack P t go)

  -- ---- a variable gets a value, which is converted

  module _ (bound : ℕ) (layout : Layout) (held : List ℤ) where
    store_is : (name : Name) (k : ℕ) (v : Value) (of : TypeName) (K : Unit {0} → doing.Does Variables A) (s : State Variables) → (found name s.variables).of ≡ of →
        (store name k v >>= K) s ≡ (checked (converted of v) >>= (λ w s'. K tt (record s' { variables = changed name (with_element k w) s'.variables }))) s
    unfolding store variable ◌>>=◌ then_do variables set_variables pure checked trap
    store_is name k v of K s is = ap (λ u. then_do (then_do (checked (converted u v) s) (λ w. variables >>= (λ all. set_variables (changed name (with_element k w) all)))) K) is ∙ by (converted of v)
      where
        by : (c : Checked Value) → then_do (then_do (checked c s) (λ w. variables >>= (λ all. set_variables (changed name (with_element k w) all)))) K ≡ then_do (checked c s) (λ w s'. K tt (record s' { variables = changed name (with_element k w) s'.variables }))
        by (Ok w) = refl
        by (Err e) = refl

    -- the number is put into the cell of the variable, or of the element
    pub stores_value : (name : Name) (k : ℕ) (v : Value) (from : TypeName) (at' : Where) (base size : ℕ) (of : TypeName) (K : Unit {0} → doing.Does Variables A) (G : ℤ → doing.Does Cells Ending) (s : State Variables) (t : State Cells) → IsIn from v → spot name layout ≡ layouts.Cells at' base size of → k < size → Stands bound layout held s t →
        ((w : Value) → IsIn of w → Same F (K tt (record s { variables = changed name (with_element k w) s.variables })) (G (number w) t)) →
        Same F ((store name k v >>= K) s) ((checked (converted_number of (number v)) >>= G) t)
    stores_value name k v from at' base size of K G s t fit is lt r go =
        let there = subst (λ o. AtSpot (λ w. cells_at w t.variables) o (found name s.variables)) is (found_at bound layout held s t r name) in
        left_is (store_is name k v of K s there.type)
        (agreed_then of (converted of v) (converted_number of (number v)) (converts of from v fit) (λ w s'. K tt (record s' { variables = changed name (with_element k w) s'.variables })) G s t go)
