-- A token of one of some classes is the one that is written for what the tree keeps of it.
use Rattle.std.proofs.Common.{◌≡◌, ℕ, ◌<◌, ◌≤◌, Bool, true, false, eqb, [], ◌∷◌, refl, ap, arith, inl, inr}
use Rattle.std.proofs.lemmas.Bool.{or_cases}
use Rattle.cl_rules.specs.Syntax.{has}
use Rattle.cl_ast.specs.declared.word.Word.{Word}
use Rattle.cl_ast.specs.declared.word.Word.TheVariants as words
use Rattle.cl_ast.specs.declared.mark.Mark.{Mark}
use Rattle.cl_ast.specs.declared.mark.Mark.TheVariants as marks
use Rattle.cl_ast.specs.Plain.{PlainKind, Name, Int, Long, Character, Str, Keyword, Reserved, Punctuator, Define}
use Rattle.cl_ast.specs.Classes.{kind_class, word_class, mark_class, word_classes, mark_classes}
use Rattle.cl_ast.specs.Trees.{kind_bytes, kind_constant, kind_type, kind_verb, is_decrement}
use Rattle.cl_ast.proofs.Marks.{same_mark}
use Rattle.cl_print.specs.Expressions.{constant_kind, verb_word}
use Rattle.cl_print.specs.Statements.{type_word}
use Rattle.cl_print.specs.Says.{size_said, change_said, step_said, leave_said}
use Rattle.cl_print.proofs.Words.{same_word}

untrue : {A : Type 0} → ◌≡◌ {A = Bool} false true → A
untrue e = absurd cc

word_low : (w : Word) → (7 ≤ word_class w) × (word_class w < 26)
word_low words.Int = (omega arith, omega arith)
word_low w = (omega arith, omega arith)

mark_high : (m : Mark) → 26 ≤ mark_class m
mark_high marks.OpenBracket = omega arith
mark_high m = omega arith

one_class : (c k : ℕ) → has (c ∷ []) k ≡ true → c ≡ k
one_class c k h = elim (or_cases (eqb c k) false h) [ inl e ↦ grind arith | inr e ↦ untrue e ]

marks_apart : (m : Mark) (k : PlainKind) → mark_class m ≡ kind_class k → Punctuator m ≡ k
marks_apart m (Punctuator n) e = ap Punctuator (same_mark m n e)
marks_apart m (Keyword w) e = (let a = mark_high m in let b = (word_low w).1 in absurd (omega arith))
marks_apart m (Name bytes) e = (let a = mark_high m in absurd (omega arith))
marks_apart m (Int value) e = (let a = mark_high m in absurd (omega arith))
marks_apart m (Long value) e = (let a = mark_high m in absurd (omega arith))
marks_apart m (Character byte) e = (let a = mark_high m in absurd (omega arith))
marks_apart m (Str bytes) e = (let a = mark_high m in absurd (omega arith))
marks_apart m Reserved e = (let a = mark_high m in absurd (omega arith))
marks_apart m Define e = (let a = mark_high m in absurd (omega arith))

pub mark_only : (m : Mark) (k : PlainKind) → has (mark_class m ∷ []) (kind_class k) ≡ true → Punctuator m ≡ k
mark_only m k h = marks_apart m k (one_class (mark_class m) (kind_class k) h)

words_apart : (w : Word) (k : PlainKind) → word_class w ≡ kind_class k → Keyword w ≡ k
words_apart w (Keyword v) e = ap Keyword (same_word w v e)
words_apart w (Punctuator m) e = (let a = mark_high m in let b = (word_low w).1 in absurd (omega arith))
words_apart w (Name bytes) e = (let a = (word_low w).0 in absurd (omega arith))
words_apart w (Int value) e = (let a = (word_low w).0 in absurd (omega arith))
words_apart w (Long value) e = (let a = (word_low w).0 in absurd (omega arith))
words_apart w (Character byte) e = (let a = (word_low w).0 in absurd (omega arith))
words_apart w (Str bytes) e = (let a = (word_low w).0 in absurd (omega arith))
words_apart w Reserved e = (let a = (word_low w).0 in absurd (omega arith))
words_apart w Define e = (let a = (word_low w).0 in absurd (omega arith))

pub word_only : (w : Word) (k : PlainKind) → has (word_class w ∷ []) (kind_class k) ≡ true → Keyword w ≡ k
word_only w k h = words_apart w k (one_class (word_class w) (kind_class k) h)

pub name_only : (k : PlainKind) → has (0 ∷ []) (kind_class k) ≡ true → Name (kind_bytes k) ≡ k
name_only (Name bytes) h = refl
name_only (Keyword words.Int) h = untrue h
name_only (Keyword w) h = untrue h
name_only (Punctuator marks.Or) h = untrue h
name_only (Punctuator m) h = untrue h
name_only k h = untrue h

pub text_only : (k : PlainKind) → has (4 ∷ []) (kind_class k) ≡ true → Str (kind_bytes k) ≡ k
text_only (Str bytes) h = refl
text_only (Keyword words.Int) h = untrue h
text_only (Keyword w) h = untrue h
text_only (Punctuator marks.Or) h = untrue h
text_only (Punctuator m) h = untrue h
text_only k h = untrue h

pub define_only : (k : PlainKind) → has (6 ∷ []) (kind_class k) ≡ true → Define ≡ k
define_only Define h = refl
define_only (Keyword words.Int) h = untrue h
define_only (Keyword w) h = untrue h
define_only (Punctuator marks.Or) h = untrue h
define_only (Punctuator m) h = untrue h
define_only k h = untrue h

pub literal_only : (k : PlainKind) → has (1 ∷ 2 ∷ 3 ∷ []) (kind_class k) ≡ true → constant_kind (kind_constant k) ≡ k
literal_only (Int value) h = refl
literal_only (Long value) h = refl
literal_only (Character byte) h = refl
literal_only (Keyword words.Int) h = untrue h
literal_only (Keyword w) h = untrue h
literal_only (Punctuator marks.Or) h = untrue h
literal_only (Punctuator m) h = untrue h
literal_only k h = untrue h

pub size_only : (k : PlainKind) → has (0 ∷ 1 ∷ 2 ∷ []) (kind_class k) ≡ true → size_said k ≡ k
size_only (Name bytes) h = refl
size_only (Int value) h = refl
size_only (Long value) h = refl
size_only (Keyword words.Int) h = untrue h
size_only (Keyword w) h = untrue h
size_only (Punctuator marks.Or) h = untrue h
size_only (Punctuator m) h = untrue h
size_only k h = untrue h

pub type_only : (k : PlainKind) → has (word_classes (words.Int ∷ words.Long ∷ words.Char ∷ [])) (kind_class k) ≡ true → Keyword (type_word (kind_type k)) ≡ k
type_only (Keyword words.Int) h = refl
type_only (Keyword words.Long) h = refl
type_only (Keyword words.Char) h = refl
type_only (Keyword w) h = untrue h
type_only (Punctuator marks.Or) h = untrue h
type_only (Punctuator m) h = untrue h
type_only k h = untrue h

pub verb_only : (k : PlainKind) → has (word_classes (words.Out ∷ words.In ∷ words.Rd ∷ words.Inp ∷ words.Rdp ∷ words.Eval ∷ [])) (kind_class k) ≡ true → Keyword (verb_word (kind_verb k)) ≡ k
verb_only (Keyword words.Out) h = refl
verb_only (Keyword words.In) h = refl
verb_only (Keyword words.Rd) h = refl
verb_only (Keyword words.Inp) h = refl
verb_only (Keyword words.Rdp) h = refl
verb_only (Keyword words.Eval) h = refl
verb_only (Keyword w) h = untrue h
verb_only (Punctuator marks.Or) h = untrue h
verb_only (Punctuator m) h = untrue h
verb_only k h = untrue h

pub predicate_only : (k : PlainKind) → has (word_classes (words.Inp ∷ words.Rdp ∷ [])) (kind_class k) ≡ true → Keyword (verb_word (kind_verb k)) ≡ k
predicate_only (Keyword words.Inp) h = refl
predicate_only (Keyword words.Rdp) h = refl
predicate_only (Keyword words.Int) h = untrue h
predicate_only (Keyword w) h = untrue h
predicate_only (Punctuator marks.Or) h = untrue h
predicate_only (Punctuator m) h = untrue h
predicate_only k h = untrue h

pub change_only : (k : PlainKind) → has (mark_classes (marks.Assign ∷ marks.PlusAssign ∷ marks.MinusAssign ∷ marks.TimesAssign ∷ [])) (kind_class k) ≡ true → change_said k ≡ k
change_only (Punctuator marks.Assign) h = refl
change_only (Punctuator marks.PlusAssign) h = refl
change_only (Punctuator marks.MinusAssign) h = refl
change_only (Punctuator marks.TimesAssign) h = refl
change_only (Punctuator m) h = untrue h
change_only (Keyword words.Int) h = untrue h
change_only (Keyword w) h = untrue h
change_only k h = untrue h

pub step_only : (k : PlainKind) → has (mark_classes (marks.Increment ∷ marks.Decrement ∷ [])) (kind_class k) ≡ true → step_said (is_decrement k) ≡ k
step_only (Punctuator marks.Increment) h = refl
step_only (Punctuator marks.Decrement) h = refl
step_only (Punctuator m) h = untrue h
step_only (Keyword words.Int) h = untrue h
step_only (Keyword w) h = untrue h
step_only k h = untrue h

pub leave_only : (k : PlainKind) → has (word_classes (words.Break ∷ words.Continue ∷ [])) (kind_class k) ≡ true → leave_said k ≡ k
leave_only (Keyword words.Break) h = refl
leave_only (Keyword words.Continue) h = refl
leave_only (Keyword w) h = untrue h
leave_only (Punctuator marks.Or) h = untrue h
leave_only (Punctuator m) h = untrue h
leave_only k h = untrue h
