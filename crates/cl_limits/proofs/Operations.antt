-- Places of variables and tuple operations go as far with more ticks, where their parts do.
use Rattle.std.proofs.Common.{ℕ, true, false, List, [], ◌∷◌, length, Option, Some, None}
use Rattle.std.specs.Prelude.{nat_lt}
use Rattle.cl_value.specs.declared.process.Trap.TheVariants.{EvalDepth}
use Rattle.cl_value.specs.declared.value.Value.{Value}
use Rattle.cl_value.specs.Plain.{PlainPart, Eval, PlainReply, Done, Got, Miss}
use Rattle.cl_ast.specs.declared.tree.Verb.{Verb}
use Rattle.cl_model.specs.Numbers.{number, truth}
use Rattle.cl_listing.specs.Names.{Name}
use Rattle.cl_meaning.specs.Operators.{converted}
use Rattle.cl_meaning.specs.Variables.{found, element, with_element, changed}
use Rattle.cl_meaning.specs.Operations.{Does, index_of, variable, place, value_at, store, Aim, Holds, Fills, formal, fill, asked, received, requested, evaluated}
use Rattle.cl_limits.proofs.Ahead.{Goes, GoEach, goes_then, goes_also, goes_pure, goes_trap, goes_checked, goes_if, goes_ask, goes_variables, goes_set_variables, goes_each}

module _ (extra : ℕ) where
  -- ---- places

  goes_variable : (name : Name) → Goes extra (variable name)
  unfolding variable
  goes_variable name = goes_then extra _ _ (goes_variables extra) (λ all. goes_pure extra (found name all))

  -- where there is one
  abbrev pub MayGo : {A : Type 0} → Option (Does A) → Type 0
  MayGo None = Unit {0}
  MayGo (Some p) = Goes extra p

  pub goes_place : (name : Name) (index : Option (Does Value)) → MayGo index → Goes extra (place name index)
  unfolding place
  goes_place name None h = goes_pure extra 0
  goes_place name (Some index) h = goes_then extra index _ h (λ i. goes_then extra _ _ (goes_variable name) (λ v. goes_checked extra (index_of (number i) (length v.values))))

  pub goes_value_at : (name : Name) (at : ℕ) → Goes extra (value_at name at)
  unfolding value_at
  goes_value_at name at = goes_then extra _ _ (goes_variable name) (λ v. goes_pure extra (element at v))

  pub goes_store : (name : Name) (at : ℕ) (value : Value) → Goes extra (store name at value)
  unfolding store
  goes_store name at value = goes_then extra _ _ (goes_variable name) (λ v. goes_then extra _ _ (goes_checked extra (converted v.of value))
      (λ w. goes_then extra _ _ (goes_variables extra) (λ all. goes_set_variables extra (changed name (with_element at w) all))))

  -- ---- fields

  pub goes_formal : (name : Name) (at : Does ℕ) → Goes extra at → Goes extra (formal name at)
  unfolding formal
  goes_formal name at h = goes_then extra at _ h (λ k. goes_then extra _ _ (goes_variable name) (λ v. goes_pure extra (Fills v.of name k)))

  goes_fill : (fields : List Aim) (values : List Value) → Goes extra (fill fields values)
  unfolding fill
  goes_fill [] values = goes_pure extra tt
  goes_fill (Holds v ∷ more) [] = goes_pure extra tt
  goes_fill (Fills of name at ∷ more) [] = goes_pure extra tt
  goes_fill (Holds v ∷ more) (w ∷ ws) = goes_fill more ws
  goes_fill (Fills of name at ∷ more) (w ∷ ws) = goes_also extra _ _ (goes_store name at w) (goes_fill more ws)

  -- ---- requests

  goes_received : (fields : List Aim) (reply : PlainReply) → Goes extra (received fields reply)
  unfolding received
  goes_received fields (Got t) = goes_also extra _ _ (goes_fill fields t) (goes_pure extra (truth true))
  goes_received fields Done = goes_pure extra (truth true)
  goes_received fields Miss = goes_pure extra (truth false)

  pub goes_requested : (site : ℕ) (verb : Verb) (parts : List (Does Aim)) → GoEach extra parts → Goes extra (requested site verb parts)
  unfolding requested
  goes_requested site verb parts h = goes_then extra _ _ (goes_each extra parts h) (λ fields. goes_then extra _ _ (goes_ask extra (record { site = site; ask = asked verb fields })) (λ reply. goes_received fields reply))

  pub goes_evaluated : (depth site : ℕ) (parts : List (Does PlainPart)) → GoEach extra parts → Goes extra (evaluated depth site parts)
  unfolding evaluated
  goes_evaluated depth site parts h = goes_then extra _ _ (goes_each extra parts h) (λ live. goes_if extra (nat_lt depth 64) _ _
      (goes_also extra _ _ (goes_ask extra (record { site = site; ask = Eval live })) (goes_pure extra (truth true))) (goes_trap extra Value EvalDepth))
