-- Which code is the code of a condition: it leads to one address where the expression isn't 0, and to another where it is. (ISO/IEC 9899:1999,
-- 6.5.8, 6.5.9, 6.5.13, 6.5.14 and 6.8.4; the instructions: this project.)
use Rattle.std.specs.Prelude.{◌≡◌, ℕ, suc, List, [], ◌∷◌, Option, Some, None}
use Rattle.cl_ast.specs.declared.tree.TypeName.{TypeName}
use Rattle.cl_ast.specs.declared.tree.Expr.{Expr}
use Rattle.cl_ast.specs.declared.tree.Expr.TheVariants as exprs
use Rattle.cl_ast.specs.declared.tree.Chain.{Chain, out-Chain}
use Rattle.cl_ast.specs.declared.tree.Link.{Link, out-Link}
use Rattle.cl_ast.specs.declared.tree.Prefix.{Prefix, out-Prefix}
use Rattle.cl_ast.specs.declared.tree.Operator.TheVariants as operators
use Rattle.cl_code.specs.Plain.{PlainProgram}
use Rattle.cl_code.specs.declared.instr.Instr.{Instr}
use Rattle.cl_code.specs.declared.instr.Instr.TheVariants as code
use Rattle.cl_translation.specs.Around.{Around}
use Rattle.cl_translation.specs.Layout.{Layout}
use Rattle.cl_translation.specs.Chosen.{opposite}
use Rattle.cl_translation.specs.Lying.{Lies}
use Rattle.cl_translation.specs.Code.{Computes}

-- The first number is the height of the stack, before the code and at both ends to which it leads, and the second how many temporaries are held. The
-- next two are the addresses between which the code stands, and the last two where it leads: where the expression isn't 0, and where it is.
mutual
  pub data Decides (p : PlainProgram) (around : Around) (layout : Layout) : ℕ → ℕ → Expr → ℕ → ℕ → ℕ → ℕ → Type 0 where
    -- the value; JumpZero no; yes:
    ByValue : (n free a b no : ℕ) (x : Expr) (of : TypeName) →
        Computes p around layout n free x of a b →
        Lies p (suc n) b (code.JumpZero no) →
        Decides p around layout n free x a (suc b) (suc b) no
    -- the value; Not; JumpZero yes; no:
    ByInverse : (n free a b yes : ℕ) (x : Expr) (of : TypeName) →
        Computes p around layout n free x of a b →
        Lies p (suc n) b code.Not →
        Lies p (suc n) (suc b) (code.JumpZero yes) →
        Decides p around layout n free x a (suc (suc b)) yes (suc (suc b))
    -- both operands of a comparison; its opposite; JumpZero yes; no:
    ByComparison : (n free a b c yes : ℕ) (x : Chain) (l : Link) (left right : TypeName) (i : Instr) →
        (out-Chain x).others ≡ l ∷ [] →
        Computes p around layout n free (out-Chain x).first left a b →
        Computes p around layout (suc n) free (out-Link l).operand right b c →
        opposite (out-Link l).operator ≡ Some i →
        Lies p (suc (suc n)) c i →
        Lies p (suc n) (suc c) (code.JumpZero yes) →
        Decides p around layout n free (exprs.Chain x) a (suc (suc c)) yes (suc (suc c))
    -- `!`
    Exchanging : (n free a b yes no : ℕ) (x : Prefix) →
        Decides p around layout n free (out-Prefix x).operand a b no yes →
        Decides p around layout n free (exprs.Not x) a b yes no
    -- operands with `&&` between them
    ByAll : (n free a b yes no : ℕ) (x : Chain) →
        All p around layout n free (out-Chain x).first (out-Chain x).others a b yes no →
        Decides p around layout n free (exprs.Chain x) a b yes no
    -- operands with `||` between them
    ByAny : (n free a b yes no : ℕ) (x : Chain) →
        Any p around layout n free (out-Chain x).first (out-Chain x).others a b yes no →
        Decides p around layout n free (exprs.Chain x) a b yes no
    -- code that leads on where it isn't 0, with a jump behind it
    JumpingYes : (n free a b yes no : ℕ) (x : Expr) →
        Decides p around layout n free x a b b no →
        Lies p n b (code.Jump yes) →
        Decides p around layout n free x a (suc b) yes no
    -- code that leads on where it is 0, with a jump behind it
    JumpingNo : (n free a b yes no : ℕ) (x : Expr) →
        Decides p around layout n free x a b yes b →
        Lies p n b (code.Jump no) →
        Decides p around layout n free x a (suc b) yes no

  -- An expression and the operands behind it, each after `&&`: each but the last leads to the next where it isn't 0.
  pub data All (p : PlainProgram) (around : Around) (layout : Layout) : ℕ → ℕ → Expr → List Link → ℕ → ℕ → ℕ → ℕ → Type 0 where
    LastOfAll : (n free a b yes no : ℕ) (x : Expr) →
        Decides p around layout n free x a b yes no →
        All p around layout n free x [] a b yes no
    And : (n free a b c yes no : ℕ) (x : Expr) (l : Link) (ls : List Link) →
        (out-Link l).operator ≡ operators.And →
        Decides p around layout n free x a b b no →
        All p around layout n free (out-Link l).operand ls b c yes no →
        All p around layout n free x (l ∷ ls) a c yes no

  -- The same with `||`: each but the last leads to the next where it is 0.
  pub data Any (p : PlainProgram) (around : Around) (layout : Layout) : ℕ → ℕ → Expr → List Link → ℕ → ℕ → ℕ → ℕ → Type 0 where
    LastOfAny : (n free a b yes no : ℕ) (x : Expr) →
        Decides p around layout n free x a b yes no →
        Any p around layout n free x [] a b yes no
    Or : (n free a b c yes no : ℕ) (x : Expr) (l : Link) (ls : List Link) →
        (out-Link l).operator ≡ operators.Or →
        Decides p around layout n free x a b yes b →
        Any p around layout n free (out-Link l).operand ls b c yes no →
        Any p around layout n free x (l ∷ ls) a c yes no

-- A condition that may be left out: it holds then.
pub data DecidesIfAny (p : PlainProgram) (around : Around) (layout : Layout) : Option Expr → ℕ → ℕ → ℕ → ℕ → Type 0 where
  Always : (a yes no : ℕ) →
      Lies p 0 a (code.Jump yes) →
      DecidesIfAny p around layout None a (suc a) yes no
  Tested : (a b yes no : ℕ) (x : Expr) →
      Decides p around layout 0 0 x a b yes no →
      DecidesIfAny p around layout (Some x) a b yes no
