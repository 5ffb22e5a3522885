-- A source that is read as a tree is taken by a run as that tree, or refused in one way.
use Rattle.std.proofs.Common.{◌≡◌, ℕ, List, [], Option, Some, None, Result, Ok, Err, refl, sym, ap, subst}
use Rattle.std.specs.Prelude.{IfErr, IsErrAnd}
use Rattle.cl_ast.specs.declared.statement.Item.{Item}
use Rattle.cl_types.specs.declared.fault.Fault.{Fault}
use Rattle.cl_types.specs.declared.public.TypeEnd.{TypeEnd}
use Rattle.cl_types.specs.declared.public.TypeEnd.TheVariants as type_ends
use Rattle.cl_types.specs.Ends.{IsEndOf}
use Rattle.cl_types.specs.Faults.{first}
use Rattle.cl_types.specs.Unit.{faults}
use Rattle.cl_front.specs.Front.{IsReadAs}
use Rattle.cl_front.specs.Judging.{IsFit, first_eval, refusal_of_fault, unfit_by, unfit, RefusesRun, Unread, Unfit}
use Rattle.cl_front.specs.Reading.{trees, programs, IsTaken, IsRefused}
use Rattle.cl_front.specs.Ends.{front_end, EndsAtEval, EndsSo}
use Rattle.cl_front.specs.declared.front.FrontEnd.{FrontEnd}
use Rattle.cl_front.specs.declared.front.FrontEnd.TheVariants as ends
use Rattle.cl_front.specs.declared.refusal.Refusal.{Refusal}

-- nothing is wrong with a tree that a run takes
fit_is_none : (items : List Item) → IsFit items → unfit items ≡ None
fit_is_none items fit = rw (fit.faultless, fit.alone) refl

-- what is known of one refusal holds of another that is as well found
same_some : (found : Option Refusal) (refusal other : Refusal) → found ≡ Some refusal → found ≡ Some other → refusal ≡ other
same_some found refusal other one two = cc

module _ (source : List ℕ) (items : List Item) (has : IsTaken trees source items) where
  -- a fact of the tree of the source
  of_tree : (P : List Item → Type 0) (others : List Item) → IsReadAs source others → P others → P items
  of_tree P others read h = subst P (sym (has.alone others read)) h

  pub fit_has : IsFit items → IsTaken programs source items
  fit_has fit =
      record {
        is = record { read = has.is; fit = fit };
        alone = λ others is. has.alone others is.read;
        fine = λ refusal refuses. never refusal refuses;
      }
    where
      never : (refusal : Refusal) → RefusesRun source refusal → ⊥
      never refusal (Unread fails) = has.fine refusal fails
      never refusal (Unfit others read is) = let some : unfit items ≡ Some refusal = of_tree (λ xs. unfit xs ≡ Some refusal) others read is in let none = fit_is_none items fit in cc

  pub unfit_refuses : (refusal : Refusal) → unfit items ≡ Some refusal → IsRefused programs source refusal
  unfit_refuses refusal is =
      record {
        none = λ others run. let none = of_tree (λ xs. unfit xs ≡ None) others run.read (fit_is_none others run.fit) in cc;
        is = Unfit items has.is is;
        alone = λ other refuses. same other refuses;
      }
    where
      same : (other : Refusal) → RefusesRun source other → refusal ≡ other
      same other (Unread fails) = absurd (has.fine other fails)
      same other (Unfit others read also) = same_some (unfit items) refusal other is (of_tree (λ xs. unfit xs ≡ Some other) others read also)

  -- a tree with an `eval` and without faults
  pub eval_ends : faults items ≡ [] → (end : FrontEnd) → EndsAtEval items end → EndsSo programs source end
  eval_ends faultless (ends.Refused refusal) at = unfit_refuses refusal (rw faultless at)
  eval_ends faultless ends.NoMemory at = tt

  -- a tree with faults
  pub fault_ends : {A : Type 0} (result : Result A TypeEnd) (end : TypeEnd) → result ≡ Err end → IsEndOf (faults items) result → EndsSo programs source (front_end end)
  fault_ends {A} result (type_ends.Fault place kind) is told =
      let found : first (faults items) ≡ Some (record { place = place; kind = kind }) = subst (λ (r : Result A TypeEnd). IsEndOf (faults items) r) is told in
      unfit_refuses (refusal_of_fault (record { place = place; kind = kind })) (ap (λ (f : Option Fault). unfit_by f (first_eval items)) found)
  fault_ends result type_ends.NoMemory is told = tt

-- a source that isn't read is refused by each run
unread_refuses : (source : List ℕ) (refusal : Refusal) → IsRefused trees source refusal → IsRefused programs source refusal
unread_refuses source refusal is =
    record {
      none = λ others run. is.none others run.read;
      is = Unread is.is;
      alone = λ other refuses. same other refuses;
    }
  where
    same : (other : Refusal) → RefusesRun source other → refusal ≡ other
    same other (Unread fails) = is.alone other fails
    same other (Unfit others read also) = absurd (is.none others read)

pub unread_ends : (source : List ℕ) (end : FrontEnd) → EndsSo trees source end → EndsSo programs source end
unread_ends source (ends.Refused refusal) is = unread_refuses source refusal is
unread_ends source ends.NoMemory is = tt

-- an error that is handed on is the end of the judgment
pub err_ends : {A : Type 0} (source : List ℕ) (result : Result A FrontEnd) (end : FrontEnd) → IsErrAnd result (λ e. e ≡ end) → EndsSo programs source end → IfErr result (EndsSo programs source)
err_ends source (Ok x) end is ends = tt
err_ends source (Err e) end is ends = subst (λ (other : FrontEnd). EndsSo programs source other) (sym is) ends
