-- The code of an element of an array: its index is tested.
use Rattle.std.proofs.Common.{◌≡◌, ℕ, suc, ◌+◌, ◌<◌, Bool, true, false, List, ◌∷◌, length, Some, refl, ap, subst, ◌∙◌, ltb-true, lt-ltb}
use Rattle.std.specs.Prelude.{ℤ, pos, negsuc, nat_lt, slice_get, if◌then◌else◌, option_map, Ok, Err}
use Rattle.cl_value.specs.declared.process.Trap.TheVariants.{IndexRange}
use Rattle.cl_value.specs.declared.value.Value.{Value}
use Rattle.cl_ast.specs.declared.tree.TypeName.{TypeName}
use Rattle.cl_ast.specs.declared.tree.Expr.{Expr}
use Rattle.cl_ast.specs.declared.tree.Expr.TheVariants as exprs
use Rattle.cl_ast.specs.declared.tree.Place.{Place, out-Place}
use Rattle.cl_listing.specs.Names.{Name}
use Rattle.cl_model.specs.Doing.{Steps, Gives, Stops, State, then_do, ◌>>=◌, ◌>>◌, pure, checked, Checked, variables, trap}
use Rattle.cl_model.specs.Doing as doing
use Rattle.cl_model.specs.Numbers.{number}
use Rattle.cl_meaning.specs.Variables.{Variables, found, element}
use Rattle.cl_meaning.specs.Operations.{Does, place, value_at, variable}
use Rattle.cl_meaning.specs.Operations as meaning
use Rattle.cl_meaning.specs.Expressions.{Surroundings, value, place_meant}
use Rattle.cl_meaning.proofs.Equations.{of_place, place_at}
use Rattle.cl_code.specs.Plain.{PlainProgram}
use Rattle.cl_code.specs.Machine.{Cells, Stack, Where, Local, Global, cells_at, Frame, effect, follow, machine, loads, loads_at, loaded, index_of, Way}
use Rattle.cl_code.specs.Following.{follows}
use Rattle.cl_translation.proofs.Alike.{Same}
use Rattle.cl_translation.specs.Layout as layouts
use Rattle.cl_translation.specs.Layout.{Layout, Spot, spot}
use Rattle.cl_translation.specs.Stands.{Stands}
use Rattle.cl_translation.specs.Chosen.{load_at}
use Rattle.cl_translation.proofs.Means.{Goes, End, Evaluates}
use Rattle.cl_translation.proofs.Notation.{in_turn, both, left_is, right_is, same_trap}
use Rattle.cl_translation.proofs.Spots.{AtSpot}
use Rattle.cl_translation.proofs.States.{found_at}
use Rattle.cl_translation.proofs.Steps.{at}
use Rattle.cl_translation.proofs.Values.{element_lies}
use Rattle.cl_translation.specs.Lying.{Has}

module _ (p : PlainProgram) (depth : ℕ) (A : Type 0) (F : End A) (goes : Goes p depth) (frames : List Frame) (bound : ℕ) (layout : Layout) (held : List ℤ) where
  -- ---- an index is tested, on both sides

  -- the index of an array, and then what is done at this place
  pub indexed : (size : ℕ) (f : ℕ → doing.Does Variables A) (b : ℕ) (g : ℕ → doing.Does Cells Way) (s : State Variables) (t : State Cells) → (x : ℤ) → ((k : ℕ) → k < size → x ≡ pos k → Same F (f k s) (then_do (g k t) (follows p depth frames b))) →
      Same F ((checked (meaning.index_of x size) >>= f) s) (then_do ((checked (index_of x size) >>= g) t) (follows p depth frames b))
  unfolding ◌>>=◌ then_do checked pure trap
  indexed size f b g s t (negsuc n) go = same_trap F IndexRange
  indexed size f b g s t (pos n) go = by (nat_lt n size) refl
    where
      by : (test : Bool) → nat_lt n size ≡ test → Same F (then_do (checked (if test then Ok n else Err IndexRange) s) f) (then_do (then_do (checked (if test then Ok n else Err IndexRange) t) g) (follows p depth frames b))
      by true is = go n (ltb-true n size is) refl
      by false is = same_trap F IndexRange

  module _ (around : Surroundings) where
    -- a place with an index: the index is evaluated and tested
    pub placed : (x : Place) (i : Expr) → (out-Place x).index ≡ Some i → (K : ℕ → doing.Does Variables A) → (place_meant around x).at >>= K ≡ value around i >>= (λ v. (variable (out-Place x).name.bytes >>= (λ w. checked (meaning.index_of (number v) (length w.values)))) >>= K)
    unfolding place
    placed x i is K = ap (λ d. d >>= K) (place_at around x) ∙ (ap (λ o. place (out-Place x).name.bytes (option_map (value around) o) >>= K) is
        ∙ in_turn (value around i) (λ v. variable (out-Place x).name.bytes >>= (λ w. checked (meaning.index_of (number v) (length w.values)))) K)

    -- the variable is found, and its length is that of the layout
    sized : (name : Name) (x : ℤ) (size : ℕ) (K : ℕ → doing.Does Variables A) (s : State Variables) → length (found name s.variables).values ≡ size → ((variable name >>= (λ w. checked (meaning.index_of x (length w.values)))) >>= K) s ≡ (checked (meaning.index_of x size) >>= K) s
    unfolding ◌>>=◌ then_do pure variable variables
    sized name x size K s is = ap (λ m. then_do (checked (meaning.index_of x m) s) K) is

    pub at_index : (name : Name) (size : ℕ) (K : ℕ → doing.Does Variables A) (b : ℕ) (g : ℕ → doing.Does Cells Way) (v : Value) (s : State Variables) (t : State Cells) (at' : Where) (base : ℕ) (of : TypeName) → spot name layout ≡ layouts.Cells at' base size of → Stands bound layout held s t →
        ((k : ℕ) → k < size → number v ≡ pos k → Same F (K k s) (then_do (g k t) (follows p depth frames b))) →
        Same F (((variable name >>= (λ w. checked (meaning.index_of (number v) (length w.values)))) >>= K) s) (then_do ((checked (index_of (number v) size) >>= g) t) (follows p depth frames b))
    at_index name size K b g v s t at' base of is r go =
        let there = subst (λ o. AtSpot (λ w. cells_at w t.variables) o (found name s.variables)) is (found_at bound layout held s t r name) in
        left_is (sized name (number v) size K s there.count) (indexed size K b g s t (number v) go)

    element_is : (name : Name) (k : ℕ) (K : Value → doing.Does Variables A) (s : State Variables) → (value_at name k >>= K) s ≡ K (element k (found name s.variables)) s
    unfolding ◌>>=◌ then_do pure value_at variable variables
    element_is name k K s = refl

    pub loads_there : (at' : Where) (k : ℕ) (n : ℤ) (b : ℕ) (stack : Stack) (t : State Cells) → slice_get (cells_at at' t.variables) k ≡ Some n → then_do (loads at' k stack t) (follows p depth frames b) ≡ machine p depth frames b (n ∷ stack) t
    unfolding loads ◌>>=◌ then_do variables pure follow
    loads_there at' k n b stack t is = ap (λ o. follows p depth frames b (loaded o stack) t) is

    pub at_load : (b : ℕ) (at' : Where) (base size : ℕ) → Has p b (load_at at' base size) → (n : ℤ) (stack : Stack) (t : State Cells) → machine p depth frames b (n ∷ stack) t ≡ then_do ((checked (index_of n size) >>= (λ k. loads at' (base + k) stack)) t) (follows p depth frames (suc b))
    unfolding effect loads_at
    at_load b Local base size h n stack t = at p depth goes frames b _ h (n ∷ stack) t
    at_load b Global base size h n stack t = at p depth goes frames b _ h (n ∷ stack) t

    pub element_runs : (a b : ℕ) (x : Place) (i : Expr) (index : TypeName) (at' : Where) (base size : ℕ) (of : TypeName) → (out-Place x).index ≡ Some i → spot (out-Place x).name.bytes layout ≡ layouts.Cells at' base size of →
        Evaluates p depth A F frames bound layout held (value around i) index a b → Has p b (load_at at' base size) → Evaluates p depth A F frames bound layout held (value around (exprs.Place x)) of a (suc b)
    element_runs a b x i index at' base size of some is ih h K stack k s t r =
        let name = (out-Place x).name.bytes in
        left_is (ap (λ d. (d >>= K) s) (of_place around x) ∙ ap (λ d. d s) (in_turn (place_meant around x).at (value_at name) K ∙ placed x i some (λ m. value_at name m >>= K)))
        (ih _ stack (λ v s' t' fit r'.
        let there = subst (λ o. AtSpot (λ w. cells_at w t'.variables) o (found name s'.variables)) is (found_at bound layout held s' t' r' name) in
        right_is (at_load b at' base size h (number v) stack t')
        (at_index name size (λ m. value_at name m >>= K) (suc b) (λ m. loads at' (base + m) stack) v s' t' at' base of is r' (λ m lt same.
        let lies = element_lies (cells_at at' t'.variables) base size m of (found name s'.variables) there lt in
        both (element_is name m K s') (loads_there at' (base + m) (number (element m (found name s'.variables))) (suc b) stack t' lies.there) (k (element m (found name s'.variables)) s' t' lies.typed r')))) s t r)

    -- an element at an index that was tested
    pub loaded_at : (b : ℕ) (at' : Where) (base size k : ℕ) → Has p b (load_at at' base size) → k < size → (n : ℤ) (stack : Stack) (t : State Cells) → slice_get (cells_at at' t.variables) (base + k) ≡ Some n → machine p depth frames b (pos k ∷ stack) t ≡ machine p depth frames (suc b) (n ∷ stack) t
    unfolding ◌>>=◌ then_do checked pure
    loaded_at b at' base size k h lt n stack t is =
        at_load b at' base size h (pos k) stack t
        ∙ (ap (λ test. then_do (then_do (checked (if test then Ok k else Err IndexRange) t) (λ m. loads at' (base + m) stack)) (follows p depth frames (suc b))) (lt-ltb k size lt)
        ∙ loads_there at' (base + k) n (suc b) stack t is)
