-- A word is told by its class.
use Rattle.std.proofs.Common.{◌≡◌, ◌-◌, ℕ, List, [], ◌∷◌, get_or, refl, sym, ap, ◌∙◌}
use Rattle.cl_ast.specs.declared.word.Word.{Word}
use Rattle.cl_ast.specs.declared.word.Word.TheVariants as words
use Rattle.cl_ast.specs.Classes.{word_class}

-- the words by class
all_words : List Word
all_words = words.Int ∷ words.Long ∷ words.Char ∷ words.Void ∷ words.If ∷ words.Else ∷ words.While ∷ words.Do ∷ words.For ∷ words.Break ∷ words.Continue ∷ words.Return ∷ words.Out ∷ words.In ∷ words.Rd ∷ words.Inp ∷ words.Rdp ∷ words.Eval ∷ words.Printf ∷ []

word_of_class : ℕ → Word
unfolding all_words
word_of_class k = get_or all_words (k - 7) words.Int

known : (w : Word) → word_of_class (word_class w) ≡ w
unfolding word_of_class all_words
known words.Int = refl
known words.Long = refl
known words.Char = refl
known words.Void = refl
known words.If = refl
known words.Else = refl
known words.While = refl
known words.Do = refl
known words.For = refl
known words.Break = refl
known words.Continue = refl
known words.Return = refl
known words.Out = refl
known words.In = refl
known words.Rd = refl
known words.Inp = refl
known words.Rdp = refl
known words.Eval = refl
known words.Printf = refl

pub word_test : (a b : Word) → word_class a ≡ word_class b → a ≡ b
word_test a b e = sym (known a) ∙ ap word_of_class e ∙ known b
