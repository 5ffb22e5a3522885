-- From what was said to what became of a call.
use Rattle.std.proofs.Common.{◌≡◌, ◌≢◌, ℕ, ◌≤◌, List, length, take, Option, sym, subst, ◌∙◌, arith, inl, inr, Err, take_all}
use Rattle.std.specs.Prelude.{Result, ◌⊎◌}
use Rattle.cl_outside.specs.declared.reading.ReadEnd.{ReadEnd}
use Rattle.cl_outside.specs.declared.reading.ReadEnd.TheVariants as read_ends
use Rattle.clinda.specs.Saying.{Said, Whole, Part}
use Rattle.cl_outside.specs.Faults.{Rose, Quiet}
use Rattle.cl_outside.specs.Streams.{Appends}

-- a read that didn't fail left the count
pub left_count : {T : Type 0} (r : Result T ReadEnd) (f g : ℕ) → (r ≡ Err read_ends.Fault ⊎ (g ≡ f)) → (r ≡ Err read_ends.Fault → ⊥) → g ≡ f
left_count r f g (inl h) fine = absurd (fine h)
left_count r f g (inr h) fine = h

-- the same was said of an equal text, with an equal status
pub resaid : (text other : List ℕ) (found status now : ℕ) {before after : Option (List ℕ)} {f g : ℕ} → text ≡ other → now ≡ status → Said text found status before after f g → Said other found now before after f g
resaid text other found status now {before} {after} {f} {g} same is said =
    subst (λ s. Said other found s before after f g) (sym is) (subst (λ t. Said t found status before after f g) same said)

-- a text that was said has the status that was found, or 5
pub said_status : {text : List ℕ} {found status : ℕ} {before after : Option (List ℕ)} {f g : ℕ} → Said text found status before after f g → (status ≡ found) ⊎ (status ≡ 5)
said_status (Whole s a k) = inl s
said_status (Part n h s a r) = inr s

-- at another status than 5 no write failed
pub said_kept : {text : List ℕ} {found status : ℕ} {before after : Option (List ℕ)} {f g : ℕ} → Said text found status before after f g → status ≢ 5 → g ≡ f
said_kept (Whole s a k) other = k
said_kept (Part n h s a r) other = absurd (other s)

-- at status 5, which isn't found, a write failed
pub said_rose : {text : List ℕ} {found status : ℕ} {before after : Option (List ℕ)} {f g : ℕ} → Said text found status before after f g → found ≢ 5 → status ≡ 5 → Rose f g
said_rose (Whole s a k) other five = absurd (other (sym s ∙ five))
said_rose (Part n h s a r) other five = r

-- a front of the text was written
pub said_front : (text : List ℕ) {found status : ℕ} {before after : Option (List ℕ)} {f g : ℕ} → Said text found status before after f g → (n : ℕ) × (n ≤ length text) × Appends before (take n text) after
said_front text {found} {status} {before} {after} (Whole s a k) = (length text, omega arith, subst (λ t. Appends before t after) (sym (take_all (length text) text (omega arith))) a)
said_front text (Part n h s a r) = (n, omega arith, a)

-- at another status than 5 the whole text was written
pub said_all : {text : List ℕ} {found status : ℕ} {before after : Option (List ℕ)} {f g : ℕ} → Said text found status before after f g → status ≢ 5 → Appends before text after
said_all (Whole s a k) other = a
said_all (Part n h s a r) other = absurd (other s)

-- status 8 was the one that was found
pub said_own : {text : List ℕ} {found status : ℕ} {before after : Option (List ℕ)} {f g : ℕ} → Said text found status before after f g → status ≡ 8 → found ≡ 8
said_own (Whole s a k) eight = sym s ∙ eight
said_own (Part n h s a r) eight = absurd (omega (arith, s, eight))

-- where no write failed the whole text was written
pub said_whole : {text : List ℕ} {found status : ℕ} {before after : Option (List ℕ)} {f g : ℕ} → Said text found status before after f g → Quiet f g → (status ≡ found) × Appends before text after
said_whole (Whole s a k) quiet = (s, a)
said_whole (Part n h s a r) quiet = absurd (omega (arith, r, quiet))
