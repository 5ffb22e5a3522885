use Rattle.std.proofs.Common.{refl, subst, sym}
use Rattle.cl_code.specs.declared.instr.Instr.{Instr}
use Rattle.test_machine.specs.Small.{MayFollowOne}
use Rattle.test_machine.proofs.tests.instructions.follows_one.Goals as goal

pub returns-in-NegInt : goal.returns-in-NegInt
returns-in-NegInt c h = subst (λ (i : Instr). MayFollowOne i) (sym c.in-NegInt.is) (λ x. refl)

pub returns-in-NegLong : goal.returns-in-NegLong
returns-in-NegLong c h = subst (λ (i : Instr). MayFollowOne i) (sym c.in-NegLong.is) (λ x. refl)

pub returns-in-Not : goal.returns-in-Not
returns-in-Not c h = subst (λ (i : Instr). MayFollowOne i) (sym c.in-Not.is) (λ x. refl)

pub returns-in-Narrow : goal.returns-in-Narrow
returns-in-Narrow c h = subst (λ (i : Instr). MayFollowOne i) (sym c.in-Narrow.is) (λ x. refl)

pub returns-in-ToChar : goal.returns-in-ToChar
returns-in-ToChar c h = subst (λ (i : Instr). MayFollowOne i) (sym c.in-ToChar.is) (λ x. refl)

pub returns-in-CheckIndex : goal.returns-in-CheckIndex
returns-in-CheckIndex c h = subst (λ (i : Instr). MayFollowOne i) (sym c.in-CheckIndex.is) (λ x. refl)
