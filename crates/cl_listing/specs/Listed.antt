-- What is kept of entries: where operations stand, and the distinct texts, each in the order of the text. (This project.)
use Rattle.std.specs.Prelude.{ℕ, ◌==◌, if◌then◌else◌, Bool, true, false, List, [], ◌∷◌, ◌++◌}
use Rattle.cl_listing.specs.Listing.{Entry, Site, Text, Entries, is_among, texts_behind}

-- the places of operations, and the distinct texts
pub record Listed : Type 0 where
  pub sites : List ℕ
  pub texts : List (List ℕ)

-- what is kept of no entries
abbrev pub nothing_listed : Listed
nothing_listed = record { sites = []; texts = [] }

-- what is kept with one operation more, whose place stands behind the others
abbrev pub with_site : ℕ → Listed → Listed
with_site place l = record l { sites = l.sites ++ place ∷ [] }

-- a text counts once
abbrev pub with_text : List ℕ → Listed → Listed
with_text bytes l = record l { texts = if is_among bytes l.texts then l.texts else l.texts ++ bytes ∷ [] }

-- what is kept with one entry more: each operation counts, and a text only where it is new
abbrev pub listed : Entry → Listed → Listed
listed (Site place) l = with_site place l
listed (Text bytes) l = with_text bytes l

-- one entry after the other
abbrev pub listed_all : Entries → Listed → Listed
listed_all [] l = l
listed_all (e ∷ es) l = listed_all es (listed e l)

-- the places of operations among entries
abbrev pub sites_in : Entries → List ℕ
sites_in [] = []
sites_in (Site place ∷ more) = place ∷ sites_in more
sites_in (Text bytes ∷ more) = sites_in more

-- whether an operation stands at the place
abbrev pub has_site : ℕ → Entries → Bool
has_site place [] = false
has_site place (Site other ∷ more) = if place == other then true else has_site place more
has_site place (Text bytes ∷ more) = has_site place more

-- what is kept of entries
abbrev pub listing_of : Entries → Listed
listing_of es = record { sites = sites_in es; texts = texts_behind [] es }
