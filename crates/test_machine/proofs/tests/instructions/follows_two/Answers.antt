use Rattle.std.proofs.Common.{refl, subst, sym}
use Rattle.cl_code.specs.declared.instr.Instr.{Instr}
use Rattle.test_machine.specs.Small.{MayFollowTwo}
use Rattle.test_machine.proofs.tests.instructions.follows_two.Goals as goal

pub returns-in-AddInt : goal.returns-in-AddInt
returns-in-AddInt c h = subst (λ (i : Instr). MayFollowTwo i) (sym c.in-AddInt.is) (λ x y. refl)

pub returns-in-SubInt : goal.returns-in-SubInt
returns-in-SubInt c h = subst (λ (i : Instr). MayFollowTwo i) (sym c.in-SubInt.is) (λ x y. refl)

pub returns-in-MulInt : goal.returns-in-MulInt
returns-in-MulInt c h = subst (λ (i : Instr). MayFollowTwo i) (sym c.in-MulInt.is) (λ x y. refl)

pub returns-in-DivInt : goal.returns-in-DivInt
returns-in-DivInt c h = subst (λ (i : Instr). MayFollowTwo i) (sym c.in-DivInt.is) (λ x y. refl)

pub returns-in-RemInt : goal.returns-in-RemInt
returns-in-RemInt c h = subst (λ (i : Instr). MayFollowTwo i) (sym c.in-RemInt.is) (λ x y. refl)

pub returns-in-AddLong : goal.returns-in-AddLong
returns-in-AddLong c h = subst (λ (i : Instr). MayFollowTwo i) (sym c.in-AddLong.is) (λ x y. refl)

pub returns-in-SubLong : goal.returns-in-SubLong
returns-in-SubLong c h = subst (λ (i : Instr). MayFollowTwo i) (sym c.in-SubLong.is) (λ x y. refl)

pub returns-in-MulLong : goal.returns-in-MulLong
returns-in-MulLong c h = subst (λ (i : Instr). MayFollowTwo i) (sym c.in-MulLong.is) (λ x y. refl)

pub returns-in-DivLong : goal.returns-in-DivLong
returns-in-DivLong c h = subst (λ (i : Instr). MayFollowTwo i) (sym c.in-DivLong.is) (λ x y. refl)

pub returns-in-RemLong : goal.returns-in-RemLong
returns-in-RemLong c h = subst (λ (i : Instr). MayFollowTwo i) (sym c.in-RemLong.is) (λ x y. refl)

pub returns-in-Less : goal.returns-in-Less
returns-in-Less c h = subst (λ (i : Instr). MayFollowTwo i) (sym c.in-Less.is) (λ x y. refl)

pub returns-in-LessEqual : goal.returns-in-LessEqual
returns-in-LessEqual c h = subst (λ (i : Instr). MayFollowTwo i) (sym c.in-LessEqual.is) (λ x y. refl)

pub returns-in-Greater : goal.returns-in-Greater
returns-in-Greater c h = subst (λ (i : Instr). MayFollowTwo i) (sym c.in-Greater.is) (λ x y. refl)

pub returns-in-GreaterEqual : goal.returns-in-GreaterEqual
returns-in-GreaterEqual c h = subst (λ (i : Instr). MayFollowTwo i) (sym c.in-GreaterEqual.is) (λ x y. refl)

pub returns-in-Equal : goal.returns-in-Equal
returns-in-Equal c h = subst (λ (i : Instr). MayFollowTwo i) (sym c.in-Equal.is) (λ x y. refl)

pub returns-in-NotEqual : goal.returns-in-NotEqual
returns-in-NotEqual c h = subst (λ (i : Instr). MayFollowTwo i) (sym c.in-NotEqual.is) (λ x y. refl)
