-- The canonical text of the tree of a source reads back as the tree.
use Rattle.std.proofs.Common.{◌≡◌, ℕ, ◌≤◌, true, List, [], ◌∷◌, ◌++◌, map, refl, sym, ap, subst, ◌∙◌, arith}
use Rattle.std.specs.List.{list_all}
use Rattle.cl_rules.specs.Syntax.{Derivation, tokens, nesting, derives}
use Rattle.cl_rules.specs.Values.{value}
use Rattle.cl_ast.specs.declared.statement.Item.{Item}
use Rattle.cl_ast.specs.Classes.{kind_class}
use Rattle.cl_ast.specs.Grammar.{rules, unit}
use Rattle.cl_ast.specs.Tables.{language}
use Rattle.cl_ast.specs.Trees.{meaning}
use Rattle.cl_print.specs.Spelling.{Written, text_of}
use Rattle.cl_print.specs.Writing.{canonical, written, item_written}
use Rattle.cl_print.specs.Bare.{bare_item}
use Rattle.cl_print.specs.Seen.{same}
use Rattle.cl_print.specs.Back.{ReadsAs, ReadsBack}
use Rattle.cl_print.proofs.Lexed.{AreLexed, split_lexed}
use Rattle.cl_print.proofs.FineSteps.{unit_sayable}
use Rattle.cl_print.proofs.SplittingItems.{item_sayable, canonical_splits}
use Rattle.cl_print.proofs.Refill.{refill}
use Rattle.cl_print.proofs.Builds.{told_maps}
use Rattle.cl_print.proofs.BuildsStatements.{builds}
use Rattle.cl_print.proofs.Canonical.{unit_written, unit_said}

-- tokens that are written of each item in turn
joined : List (List Written) → List Written
joined [] = []
joined (x ∷ xs) = x ++ joined xs

written_is : (xs : List Item) → written xs ≡ joined (map item_written xs)
unfolding joined
written_is [] = refl
written_is (x ∷ xs) = ap (λ l. item_written x ++ l) (written_is xs)

-- of a unit that tokens derive and whose items a token can spell each
pub sayable_reads_back : (n : ℕ) (x : Derivation rules unit) → derives language x ≡ true → nesting x ≤ n → list_all item_sayable (value meaning x) ≡ true → ReadsBack n (canonical (value meaning x)) (value meaning x)
sayable_reads_back n x h deep say =
    let xs = value meaning x in
    let w = unit_written x h in
    let s = canonical_splits xs say in
    let f = refill language meaning (λ t. t.kind) same (λ t u e. ap kind_class e) builds w.derivation s.0 (s.2 ∙ sym (w.spelled ∙ unit_said x)) in
    let ys = value meaning w.derivation in
    let zs = value meaning f.derivation in
    let one = told_maps bare_item item_written xs ys w.alike in
    let two = told_maps bare_item item_written ys zs f.alike in
    record {
      items = zs;
      reads = record {
        read = s.0;
        splits = s.1;
        derivation = f.derivation;
        member = f.derived ∙ w.member;
        spelled = sym f.spelled;
        nesting = (let a = w.nested in let b = f.nested in omega arith);
        tree = refl;
      };
      same = sym (one.0 ∙ two.0);
      again = ap text_of (written_is zs ∙ ap joined (sym (one.1 ∙ two.1)) ∙ sym (written_is xs));
    }

-- of each source
pub text_reads_back : (n : ℕ) (source : List ℕ) (xs : List Item) → ReadsAs n source xs → ReadsBack n (canonical xs) xs
text_reads_back n source xs r =
    let lexed : AreLexed (tokens r.derivation) = subst AreLexed r.spelled (split_lexed source r.read r.splits) in
    subst (λ ys. ReadsBack n (canonical ys) ys) r.tree (sayable_reads_back n r.derivation r.member r.nesting (unit_sayable r.derivation r.member lexed))

-- as `print` has it
pub print_reads_back : (text : List ℕ) (xs : List Item) → text ≡ canonical xs → (n : ℕ) (source : List ℕ) → ReadsAs n source xs → ReadsBack n text xs
print_reads_back text xs e n source r = subst (λ (t : List ℕ). ReadsBack n t xs) (sym e) (text_reads_back n source xs r)
