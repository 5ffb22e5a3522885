-- What was found was done.
use Rattle.std.proofs.Common.{◌≡◌, ℕ, ◌<◌, false, List, [], ◌∷◌, ◌++◌, length, Some, refl, ap, ◌∙◌}
use Rattle.cl_value.specs.Acts.{ask_of, reply_of, is_eval}
use Rattle.cl_value.specs.Plain.{PlainAct, Got}
use Rattle.cl_value.specs.Replay.{found, replayed, TakesOldest, MissesRightly}
use Rattle.cl_value.specs.declared.value.Value.{Value}
use Rattle.cl_value.specs.declared.template.Slot.{Slot}
use Rattle.cl_model.specs.Machine.{is_land}
use Rattle.cl_alone.specs.Moment.{Moment, next_act, Did}
use Rattle.cl_alone.specs.Seekings.{ask_by, request_by, hit}
use Rattle.cl_alone.specs.declared.seeking.Seeking.{Seeking}
use Rattle.cl_alone.specs.declared.seeking.Seeking.TheVariants as seekings

-- what an operation that found a tuple says
record Says (seeking : Seeking) (template : List Slot) (t : List Value) (ts : List (List Value)) : Type 0 where
  asked : ask_of (hit seeking template t) ≡ ask_by seeking template
  told : reply_of (hit seeking template t) ≡ Some (Got t)
  no_eval : is_eval (hit seeking template t) ≡ false
  no_land : is_land (hit seeking template t) ≡ false
  oldest : TakesOldest ts (hit seeking template t)
  misses : MissesRightly ts (hit seeking template t)

says : (seeking : Seeking) (template : List Slot) (t : List Value) (ts : List (List Value)) → found ts template ≡ Some t → Says seeking template t ts
says seekings.In template t ts f = record { asked = refl; told = refl; no_eval = refl; no_land = refl; oldest = f; misses = tt }
says seekings.Rd template t ts f = record { asked = refl; told = refl; no_eval = refl; no_land = refl; oldest = f; misses = tt }
says seekings.Inp template t ts f = record { asked = refl; told = refl; no_eval = refl; no_land = refl; oldest = f; misses = tt }
says seekings.Rdp template t ts f = record { asked = refl; told = refl; no_eval = refl; no_land = refl; oldest = f; misses = tt }

-- an operation that found a tuple, and was recorded so, was done
pub hits : (old : Moment) (site : ℕ) (seeking : Seeking) (template : List Slot) (t : List Value) (acts : List PlainAct) (tuples : List (List Value)) → found old.tuples template ≡ Some t → tuples ≡ replayed old.tuples (hit seeking template t) → site < old.sites → length old.acts < old.limit → acts ≡ old.acts ++ next_act old site (hit seeking template t) ∷ [] → Did old (request_by site seeking template) (Got t) (record { acts = acts; tuples = tuples; sites = old.sites; limit = old.limit })
hits old site seeking template t acts tuples f left below room recorded =
    let s = says seeking template t old.tuples f in
    record {
      what = hit seeking template t;
      asked = s.asked;
      told = s.told;
      no_eval = s.no_eval;
      no_land = s.no_land;
      oldest = s.oldest;
      misses = s.misses;
      site = below;
      room = room;
      change = ap (λ (x : List PlainAct). record { acts = x; tuples = tuples; sites = old.sites; limit = old.limit }) recorded ∙ ap (λ (x : List (List Value)). record { acts = old.acts ++ next_act old site (hit seeking template t) ∷ []; tuples = x; sites = old.sites; limit = old.limit }) left;
    }
