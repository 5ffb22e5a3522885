-- How what is listed of parts goes together.
use Rattle.std.proofs.Common.{◌≡◌, ◌∙◌, ◌<◌, ◌≤◌, ◌+◌, ap, sym, refl, ℕ, zero, suc, List, [], ◌∷◌, ◌++◌, map, drop, length, get_or, Result, Ok, Err, OnOk, arith, add-one, append_assoc}
use Rattle.std.proofs.lemmas.List.{append-nil}
use Rattle.cl_listing.specs.Listing.{Site, Text, Entries, joined, texts_behind, in_expr, in_operation, in_block}
use Rattle.cl_listing.specs.Listed.{Listed, with_site, listed, listed_all, nothing_listed, sites_in, listing_of}
use Rattle.cl_ast.specs.declared.tree.Operation.{Operation, out-Operation}
use Rattle.cl_ast.specs.declared.tree.Chain.{Chain, out-Chain}
use Rattle.cl_ast.specs.declared.tree.Link.{Link, out-Link}
use Rattle.cl_ast.specs.declared.statement.Stmt.{Stmt}
use Rattle.cl_ast.specs.declared.statement.Block.{Block, out-Block}
use Rattle.cl_listing.specs.Walks.{in_field, in_chain, in_link, in_stmt}
use Rattle.cl_listing.proofs.Rules.{operation_is, chain_is, link_is}
use Rattle.cl_listing.proofs.Sentences.{block_is}

pub listed_append : (es fs : Entries) (l : Listed) → listed_all (es ++ fs) l ≡ listed_all fs (listed_all es l)
listed_append [] fs l = refl
listed_append (e ∷ es) fs l = listed_append es fs (listed e l)

-- one part behind another
pub two_listed : (es fs : Entries) (l a b : Listed) → a ≡ listed_all es l → b ≡ listed_all fs a → b ≡ listed_all (es ++ fs) l
two_listed es fs l a b ha hb = hb ∙ (ap (listed_all fs) ha ∙ sym (listed_append es fs l))

-- the same entries, told otherwise
pub told : (es fs : Entries) (l a : Listed) → fs ≡ es → a ≡ listed_all es l → a ≡ listed_all fs l
told es fs l a h ha = ha ∙ sym (ap (λ gs. listed_all gs l) h)

pub on_ok : {A E : Type 0} {P Q : Type 0} (r : Result A E) → OnOk r P → (P → Q) → OnOk r Q
on_ok (Ok a) p f = f p
on_ok (Err e) p f = tt

-- ---- lists of parts

drop_next : {A : Type 0} (xs : List A) (i : ℕ) (x : A) → i < length xs → drop i xs ≡ get_or xs i x ∷ drop (suc i) xs
drop_next [] i x few = absurd (omega arith)
drop_next (y ∷ ys) zero x few = refl
drop_next (y ∷ ys) (suc i) x few = drop_next ys i x (omega arith)

at_index : {A : Type 0} (xs : List A) (i : ℕ) (x : A) → i < length xs → x ≡ get_or xs i x → drop i xs ≡ x ∷ drop (i + 1) xs
at_index xs i x few is = drop_next xs i x few ∙ (ap (λ n. get_or xs i x ∷ drop n xs) (sym (add-one i)) ∙ ap (λ y. y ∷ drop (i + 1) xs) (sym is))

drop_end : {A : Type 0} (xs : List A) (i : ℕ) → length xs ≤ i → drop i xs ≡ []
drop_end [] zero h = refl
drop_end [] (suc i) h = refl
drop_end (x ∷ xs) zero h = absurd (omega arith)
drop_end (x ∷ xs) (suc i) h = drop_end xs i (omega arith)

-- what is left to list leads to the same
abbrev pub Leads : {A : Type 0} → (A → Entries) → List A → ℕ → Listed → Listed → Type 0
Leads f xs i l now = listed_all (joined (map f (drop i xs))) now ≡ listed_all (joined (map f xs)) l

pub leads_on : {A : Type 0} (f : A → Entries) (xs : List A) (i : ℕ) (x : A) (l now next : Listed) → Leads f xs i l now → i < length xs → x ≡ get_or xs i x → next ≡ listed_all (f x) now → Leads f xs (i + 1) l next
leads_on f xs i x l now next leads few is h =
    ap (listed_all (joined (map f (drop (i + 1) xs)))) h
    ∙ (sym (listed_append (f x) (joined (map f (drop (i + 1) xs))) now) ∙ (sym (ap (λ ys. listed_all (joined (map f ys)) now) (at_index xs i x few is)) ∙ leads))

pub leads_to : {A : Type 0} (f : A → Entries) (xs : List A) (i : ℕ) (l now : Listed) → Leads f xs i l now → length xs ≤ i → now ≡ listed_all (joined (map f xs)) l
leads_to f xs i l now leads past = sym (ap (λ ys. listed_all (joined (map f ys)) now) (drop_end xs i past)) ∙ leads

-- ---- all entries of a source

all_listed : (es : Entries) (l : Listed) → listed_all es l ≡ record { sites = l.sites ++ sites_in es; texts = texts_behind l.texts es }
all_listed [] l = ap (λ ss. record { sites = ss; texts = l.texts }) (sym (append-nil l.sites))
all_listed (Site place ∷ es) l =
    all_listed es (listed (Site place) l) ∙ ap (λ ss. record { sites = ss; texts = texts_behind l.texts es }) (append_assoc l.sites (place ∷ []) (sites_in es))
all_listed (Text bytes ∷ es) l = all_listed es (listed (Text bytes) l)

pub whole : (es : Entries) (l a : Listed) → l ≡ nothing_listed → a ≡ listed_all es l → a ≡ listing_of es
whole es l a hl ha = ha ∙ (ap (listed_all es) hl ∙ all_listed es nothing_listed)

-- ---- operations and chains

pub operation_ends : (o : Operation) (l a b : Listed) → a ≡ with_site (out-Operation o).span.start l → b ≡ listed_all (joined (map in_field (out-Operation o).fields)) a → b ≡ listed_all (in_operation o) l
operation_ends o l a b ha hb = told (Site (out-Operation o).span.start ∷ joined (map in_field (out-Operation o).fields)) (in_operation o) l b (operation_is o) (hb ∙ ap (listed_all (joined (map in_field (out-Operation o).fields))) ha)

pub chain_begins : (h : Chain) (links : List Link) (l a : Listed) → links ≡ (out-Chain h).others → a ≡ listed_all (in_expr (out-Chain h).first) l → listed_all (joined (map in_link links)) a ≡ listed_all (in_chain h) l
chain_begins h links l a hl ha =
    two_listed (in_expr (out-Chain h).first) (joined (map in_link links)) l a _ ha refl
    ∙ (ap (λ ls. listed_all (in_expr (out-Chain h).first ++ joined (map in_link ls)) l) hl ∙ sym (ap (λ es. listed_all es l) (chain_is h)))

pub links_on : (links : List Link) (i : ℕ) (k : Link) (now next all : Listed) → listed_all (joined (map in_link (drop i links))) now ≡ all → i < length links → k ≡ get_or links i k →
    next ≡ listed_all (in_expr (out-Link k).operand) now → listed_all (joined (map in_link (drop (i + 1) links))) next ≡ all
links_on links i k now next all leads few is h =
    ap (listed_all (joined (map in_link (drop (i + 1) links)))) (told (in_expr (out-Link k).operand) (in_link k) now next (link_is k) h)
    ∙ (sym (listed_append (in_link k) (joined (map in_link (drop (i + 1) links))) now) ∙ (sym (ap (λ ys. listed_all (joined (map in_link ys)) now) (at_index links i k few is)) ∙ leads))

pub links_end : (links : List Link) (i : ℕ) (now all : Listed) → listed_all (joined (map in_link (drop i links))) now ≡ all → length links ≤ i → now ≡ all
links_end links i now all leads past = sym (ap (λ ys. listed_all (joined (map in_link ys)) now) (drop_end links i past)) ∙ leads

-- ---- blocks

pub block_ends : (b : Block) (parts : List Stmt) (i : ℕ) (l now : Listed) → parts ≡ (out-Block b).statements → Leads in_stmt parts i l now → length parts ≤ i → now ≡ listed_all (in_block b) l
block_ends b parts i l now hp leads past =
    told (joined (map in_stmt (out-Block b).statements)) (in_block b) l now (block_is b) (leads_to in_stmt parts i l now leads past ∙ ap (λ ys. listed_all (joined (map in_stmt ys)) l) hp)
