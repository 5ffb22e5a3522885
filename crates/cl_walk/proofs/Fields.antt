-- Fields that were read, and places that get values. (This project.)
use Rattle.std.proofs.Common.{◌≡◌, ap, sym, refl, subst, ℕ, true, false, List, [], ◌∷◌, map, length, get_or, drop, ◌<◌, ◌≤◌, ◌+◌, arith, add-one, nat_lt}
use mathlib.Core.Path.{fun_ext}
use Rattle.std.specs.Prelude.{Result, Ok, Err, Option, Some, None}
use Rattle.std.specs.Borrow.{Bor}
use Rattle.std.specs.List.{list_all}
use Rattle.std.proofs.Math.Seq.{drop-cons}
use Rattle.std.proofs.lemmas.List.{drop_all}
use Rattle.std.proofs.lemmas.Grind.{common_steps}
use Rattle.cl_value.specs.declared.value.Value.{Value}
use Rattle.cl_value.specs.Matching.{may_stand}
use Rattle.cl_ast.specs.declared.tree.TypeName.{TypeName}
use Rattle.cl_ast.specs.declared.tree.TypeName.TheVariants as types
use Rattle.cl_value.specs.declared.process.Trap.TheVariants.{EvalDepth}
use Rattle.cl_value.specs.Plain.{PlainPart, PlainAsk, Eval, PlainRequest, PlainReply, Done, Got, Miss}
use Rattle.cl_ast.specs.declared.tree.Verb.{Verb}
use Rattle.cl_model.specs.Doing.{State, Steps, Gives, Prints, Asks, Stops, then_do, pure, trap, ask, ◌>>=◌, ◌>>◌}
use Rattle.cl_model.specs.Numbers.{truth}
use Rattle.cl_meaning.specs.Variables.{Variables}
use Rattle.cl_meaning.specs.Operations as meaning
use Rattle.cl_meaning.specs.Operations.{Does, slot, fill, store, received}
use Rattle.cl_walk.specs.Rules.{requests, spawns}
use Rattle.cl_walk.specs.Walked.{IsAnswered}
use Rattle.cl_walk.specs.declared.world.Answer.{Answer}
use Rattle.cl_walk.specs.declared.world.Answer.TheVariants as answers
use Rattle.cl_walk.specs.declared.field.Aim.{Aim}
use Rattle.cl_walk.specs.declared.field.Aim.TheVariants as aims
use Rattle.cl_walk.specs.declared.stop.Stop.{Stop}
use Rattle.cl_walk.specs.declared.stop.Stop.TheVariants.{Trapped, Paused}
use Rattle.cl_walk.specs.Views.{aim_of, aims_of, reply_in}
use Rattle.cl_walk.specs.Walks.{Walks, here, asked, with_told, Said, Shown, Point, point, log_at, Comes, same}
use Rattle.cl_walk.proofs.Walking.{walks_on, walks_under, comes_past, up_then}

-- ---- templates

slot_stands : (aim : Aim) → may_stand (slot (aim_of aim)) ≡ true
slot_stands (aims.Holds value) = refl
slot_stands (aims.Fills types.Int name at) = refl
slot_stands (aims.Fills types.Long name at) = refl
slot_stands (aims.Fills types.Char name at) = refl

-- no field that was read gives a slot that may not stand
pub slots_stand : (all : List Aim) → list_all may_stand (map slot (aims_of all)) ≡ true
slots_stand [] = refl
slots_stand (aim ∷ all) = rw (slot_stands aim, slots_stand all) refl

-- ---- places that get values

then_nothing : (p : Steps (Unit {0} × State Variables)) (q : Does (Unit {0})) → then_do (then_do p (λ _. pure (tt {0}))) (λ _. q) ≡ then_do p (λ _. q)
unfolding then_do pure
then_nothing (Gives r) q = refl
then_nothing (Prints bytes rest) q = ap (Prints bytes) (then_nothing rest q)
then_nothing (Asks request rest) q = ap (Asks request) (fun_ext (λ reply. then_nothing (rest reply) q))
then_nothing (Stops t) q = refl

with_nothing : (p : Does (Unit {0})) (from : Point) (result : Result (Unit {0}) Stop) (to : Point) → Comes same p from result to → Comes same (p >> pure (tt {0})) from result to
unfolding then_do pure ◌>>◌
with_nothing p from (Ok u) to w = walks_under (λ _. pure (tt {0})) w
with_nothing p from (Err stop) to w = up_then same same p (pure (tt {0})) from to stop w

-- the first of them, and then the others
fill_cons : (aim : meaning.Aim) (value : Value) (all : List meaning.Aim) (values : List Value) → fill (aim ∷ all) (value ∷ values) ≡ (fill (aim ∷ []) (value ∷ []) >> fill all values)
unfolding fill pure ◌>>◌ then_do
fill_cons (meaning.Holds v) value all values = refl
fill_cons (meaning.Fills of name at) value all values = fun_ext (λ s. sym (then_nothing (store name at value s) (fill all values)))

fill_nothing : (all : List meaning.Aim) → fill all [] ≡ pure tt
unfolding fill
fill_nothing [] = refl
fill_nothing (meaning.Holds v ∷ all) = refl
fill_nothing (meaning.Fills of name at ∷ all) = refl

fill_none : (values : List Value) → fill [] values ≡ pure tt
unfolding fill
fill_none [] = refl
fill_none (v ∷ values) = refl

pub at_next : {A : Type 0} (xs : List A) (i : ℕ) (x : A) → i < length xs → drop i xs ≡ get_or xs i x ∷ drop (i + 1) xs
at_next xs i x few = rw (add-one i) (drop-cons xs i x few)

-- the places behind these are still to get their values
abbrev pub Filling : List Aim → List Value → ℕ → Point → Point → Type 0
Filling all values i from now = Walks (fill (aims_of all) values from.shown.state) (log_at from) (fill (aims_of (drop i all)) (drop i values) now.shown.state) (log_at now)

module _ (all : List Aim) (values : List Value) (i : ℕ) (a : Aim) (v : Value) (from now : Point) (so_far : Filling all values i from now) (few : i < length all) where
  goes_on : i < length values → Walks (fill (aims_of all) values from.shown.state) (log_at from) ((fill (aim_of (get_or all i a) ∷ []) (get_or values i v ∷ []) >> fill (aims_of (drop (i + 1) all)) (drop (i + 1) values)) now.shown.state) (log_at now)
  goes_on some = rw (← fill_cons (aim_of (get_or all i a)) (get_or values i v) (aims_of (drop (i + 1) all)) (drop (i + 1) values)) (rw (at_next all i a few, at_next values i v some) at so_far)

  pub fill_next : i < length values → (next : Point) → Comes {B = Unit {0}} same (fill (aim_of (get_or all i a) ∷ []) (get_or values i v ∷ [])) now (Ok tt) next → Filling all values (i + 1) from next
  unfolding ◌>>◌ then_do
  fill_next some next w = walks_on (goes_on some) (walks_under (λ _. fill (aims_of (drop (i + 1) all)) (drop (i + 1) values)) w)

  pub fill_stops : i < length values → (next : Point) (stop : Stop) → Comes {B = Unit {0}} same (fill (aim_of (get_or all i a) ∷ []) (get_or values i v ∷ [])) now (Err stop) next → Comes {B = Unit {0}} same (fill (aims_of all) values) from (Err stop) next
  fill_stops some next stop w =
      let rest : Does (Unit {0}) = fill (aims_of (drop (i + 1) all)) (drop (i + 1) values) in
      comes_past same (fill (aims_of all) values) (fill (aim_of (get_or all i a) ∷ []) (get_or values i v ∷ []) >> rest) from now (Err stop) next (goes_on some) (up_then same same (fill (aim_of (get_or all i a) ∷ []) (get_or values i v ∷ [])) rest now next stop w)

  pub fill_skips : length values ≤ i → Filling all values (i + 1) from now
  fill_skips past =
      let before : drop i values ≡ [] = drop_all i values past in
      let after : drop (i + 1) values ≡ [] = drop_all (i + 1) values (omega arith) in
      rw (after, fill_nothing (aims_of (drop (i + 1) all))) (rw (before, fill_nothing (aims_of (drop i all))) at so_far)

pub fill_ends : (all : List Aim) (values : List Value) (i : ℕ) (from now : Point) → Filling all values i from now → length all ≤ i → Comes {B = Unit {0}} same (fill (aims_of all) values) from (Ok tt) now
unfolding pure
fill_ends all values i from now so_far past =
    let none : drop i all ≡ [] = drop_all i all past in
    rw (none, fill_none (drop i values)) at so_far

pub fill_holds : (aim : Aim) (v w : Value) (p : Point) → aim ≡ aims.Holds v → Comes {B = Unit {0}} same (fill (aim_of aim ∷ []) (w ∷ [])) p (Ok tt) p
unfolding fill pure
fill_holds aim v w p is = rw is here

pub fill_place : (aim : Aim) (of : TypeName) (name : Bor (List ℕ)) (at : ℕ) (w : Value) (p : Point) (result : Result (Unit {0}) Stop) (to : Point) → aim ≡ aims.Fills of name at → Comes same (store name.now at w) p result to → Comes same (fill (aim_of aim ∷ []) (w ∷ [])) p result to
unfolding fill ◌>>◌
fill_place aim of name at w p result to is h = subst (λ (x : Aim). Comes same (fill (aim_of x ∷ []) (w ∷ [])) p result to) (sym is) (with_nothing (store name.now at w) p result to h)

-- ---- requests

-- where the world has answered, what is done goes on by the reply
module _ {A : Type 0} (q : PlainRequest) (f : PlainReply → Does A) (state : Shown) (old new : Said) where
  pub goes_by : (reply : PlainReply) → IsAnswered q (Some reply) old new → Walks ((ask q >>= f) state.state) (log_at (point state old)) (f reply state.state) (log_at (point state new))
  unfolding ask ◌>>=◌ then_do
  goes_by reply told = asked reply told.0 (rw told.1 here)

  pub pauses : {B : Type 0} (view : B → A) → IsAnswered q None old new → Comes view (ask q >>= f) (point state old) (Err Paused) (point state new)
  unfolding ask ◌>>=◌ then_do
  pauses view told = ((λ reply. f reply state.state), rw (told.0, told.1) here)

module _ (site : ℕ) (verb : Verb) (fields : List meaning.Aim) (asks : PlainAsk) (is : asks ≡ meaning.asked verb fields) (state : Shown) (old new : Said) where
  answered : (reply : Option PlainReply) → IsAnswered (record { site = site; ask = asks }) reply old new → IsAnswered (record { site = site; ask = meaning.asked verb fields }) reply old new
  answered reply told = subst (λ (a : PlainAsk). IsAnswered (record { site = site; ask = a }) reply old new) is told

  receives : (reply : PlainReply) → IsAnswered (record { site = site; ask = asks }) (Some reply) old new → Walks (requests site verb fields state.state) (log_at (point state old)) (received fields reply state.state) (log_at (point state new))
  receives reply told = goes_by (record { site = site; ask = meaning.asked verb fields }) (received fields) state old new reply (answered (Some reply) told)

  pub request_fills : (tuple values : List Value) (next : Shown) → values ≡ tuple → IsAnswered (record { site = site; ask = asks }) (Some (Got tuple)) old new → Comes {B = Unit {0}} same (fill fields values) (point state new) (Ok tt) (point next new) → Comes same (requests site verb fields) (point state old) (Ok (truth true)) (point next new)
  unfolding received then_do pure ◌>>◌
  request_fills tuple values next are told w = walks_on (receives (Got tuple) told) (walks_under (λ _. pure (truth true)) (rw are at w))

  pub request_stops : (tuple values : List Value) (next : Shown) (stop : Stop) → values ≡ tuple → IsAnswered (record { site = site; ask = asks }) (Some (Got tuple)) old new → Comes {B = Unit {0}} same (fill fields values) (point state new) (Err stop) (point next new) → Comes {B = Value} same (requests site verb fields) (point state old) (Err stop) (point next new)
  unfolding received
  request_stops tuple values next stop are told w =
      comes_past same (requests site verb fields) (received fields (Got tuple)) (point state old) (point state new) (Err stop) (point next new) (receives (Got tuple) told)
      (up_then same same (fill fields tuple) (pure (truth true)) (point state new) (point next new) stop (subst (λ (vs : List Value). Comes {B = Unit {0}} same (fill fields vs) (point state new) (Err stop) (point next new)) are w))

  pub request_done : IsAnswered (record { site = site; ask = asks }) (Some Done) old new → Comes same (requests site verb fields) (point state old) (Ok (truth true)) (point state new)
  unfolding received pure
  request_done told = receives Done told

  pub request_misses : IsAnswered (record { site = site; ask = asks }) (Some Miss) old new → Comes same (requests site verb fields) (point state old) (Ok (truth false)) (point state new)
  unfolding received pure
  request_misses told = receives Miss told

  pub request_pauses : IsAnswered (record { site = site; ask = asks }) None old new → Comes {B = Value} same (requests site verb fields) (point state old) (Err Paused) (point state new)
  request_pauses told = pauses (record { site = site; ask = meaning.asked verb fields }) (received fields) state old new same (answered None told)

module _ (depth site : ℕ) (live : List PlainPart) (state : Shown) where
  pub spawn_deep : (said : Said) → 64 ≤ depth → Comes {B = Value} same (spawns depth site live) (point state said) (Err (Trapped EvalDepth)) (point state said)
  unfolding trap
  spawn_deep said deep = let test : nat_lt depth 64 ≡ false = grind (arith, common_steps) in rw test here

  module _ (old new : Said) (low : depth < 64) where
    test_holds : nat_lt depth 64 ≡ true
    test_holds = grind (arith, common_steps)

    pub spawn_pauses : IsAnswered (record { site = site; ask = Eval live }) None old new → Comes {B = Value} same (spawns depth site live) (point state old) (Err Paused) (point state new)
    unfolding ask ◌>>◌ then_do
    spawn_pauses told = ((λ reply. pure (truth true) state.state), rw (test_holds, told.0, told.1) here)

    spawn_tells : (reply : PlainReply) → IsAnswered (record { site = site; ask = Eval live }) (Some reply) old new → Comes same (spawns depth site live) (point state old) (Ok (truth true)) (point state new)
    unfolding ask pure ◌>>◌ then_do
    spawn_tells reply told =
        let q : PlainRequest = record { site = site; ask = Eval live } in
        let next : Walks (Gives (truth true, state.state)) (with_told q reply (log_at (point state old))) (Gives (truth true, state.state)) (log_at (point state new)) = rw told.1 here in
        rw test_holds (asked reply told.0 next)

    pub spawn_goes : (answer : Answer) → (answer ≡ answers.Paused → ⊥) → IsAnswered (record { site = site; ask = Eval live }) (reply_in answer) old new → Comes same (spawns depth site live) (point state old) (Ok (truth true)) (point state new)
    spawn_goes answers.Done some told = spawn_tells Done told
    spawn_goes (answers.Got tuple) some told = spawn_tells (Got tuple.items) told
    spawn_goes answers.Missed some told = spawn_tells Miss told
    spawn_goes answers.Paused some told = absurd (some refl)
