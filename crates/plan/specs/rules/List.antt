-- Document 01, "List and sheet": sites, a list of them, entering a site and reading a list.
-- Assumes nothing.
use Rattle.std.specs.Prelude.{◌≡◌, Bool, true, false, not, ◌&&◌, ◌||◌, List, [], ◌∷◌, ◌++◌, map, ◌≢◌, ℕ, ◌+◌, ◌*◌, ◌≤◌, ◌<◌, eqb, leb, ltb, length, get_or}
use Rattle.std.proofs.Math.Option.{Option, some, none}
use Rattle.placing.specs.declared.units.Place.{Place}
use Rattle.placing.specs.rules.Units.{greatest_coordinate, most_sites, OnPlan, nowhere, along, X, Y, Distinct}
use Rattle.plan.specs.declared.refusal.Refusal.{Refusal}
use Rattle.plan.specs.declared.refusal.Refusal.TheVariants.{BadLine, BadName, BadNumber, NameTaken, PlaceTaken, Full}
use Rattle.plan.specs.rules.Refusal.{Test, ◌gives◌, Result, accepted, refused, after_tests}
use Rattle.plan.specs.rules.Text.{tab, line_feed, Without, fields_of, number_in, decimal, or_zero, is_name, same_bytes}

-- ---- sites

-- A site, "the spot of a bay sensor": its name and its place.
pub record Site : Type 0 where
  pub name : List ℕ
  pub place : Place

abbrev pub place_of : Site → Place
place_of site = site.place

abbrev pub places_of : List Site → List Place
places_of sites = map place_of sites

-- The place with these coordinates.
abbrev pub place_at : ℕ → ℕ → Place
place_at x y = record { x = record { 0 = x }; y = record { 0 = y } }

-- A site by the rules for names and coordinates.
pub record ByRules (site : Site) : Type 0 where
  pub named : is_name site.name ≡ true
  pub on_plan : OnPlan site.place

-- The site that stands at a number past the list: nothing depends on it.
abbrev pub no_site : Site
no_site = record { name = []; place = nowhere }

-- What holds of the sites of every plan: at most 240, each by the rules, and "names are distinct; so are places".
pub record Listed (sites : List Site) : Type 0 where
  pub few : length sites ≤ most_sites
  pub by_rules : (i : ℕ) → i < length sites → ByRules (get_or sites i no_site)
  pub names_distinct : (i j : ℕ) → i < length sites → j < length sites → i ≢ j
      → (get_or sites i no_site).name ≢ (get_or sites j no_site).name
  pub places_distinct : Distinct (places_of sites)

-- ---- a list

-- The line of a site, without its line feed: "name, x, y, parted by one tab each".
unfoldable pub list_line : Site → List ℕ
list_line site = site.name ++ (tab ∷ decimal (along X site.place)) ++ (tab ∷ decimal (along Y site.place))

-- The list of some sites: "one site a line", "each line ended by a line feed". "An empty text is a list of no sites."
unfoldable pub list_text : List Site → List ℕ
list_text [] = []
list_text (site ∷ sites) = list_line site ++ (line_feed ∷ list_text sites)

-- ---- entering a site

-- Some element passes a test.
abbrev pub among : {A : Type 0} → (A → Bool) → List A → Bool
among test [] = false
among test (a ∷ l) = test a || among test l

-- "A name already in the plan", "a place already in the plan".
abbrev pub name_taken : List Site → List ℕ → Bool
name_taken sites name = among (λ site. same_bytes site.name name) sites

abbrev pub place_taken : List Site → Place → Bool
place_taken sites place = among (λ site. eqb (along X site.place) (along X place) && eqb (along Y site.place) (along Y place)) sites

-- What is to be entered: whether its name and its coordinates are by the rules, and the site. `wanted_of` says it of a name, an x and a y.
pub record Wanted : Type 0 where
  pub named : Bool
  pub in_range : Bool
  pub site : Site

-- "Entering tests 2, 3, 7, 4, 5."
abbrev pub enter_tests : List Site → Wanted → List Test
enter_tests sites wanted =
    not wanted.named gives BadName
    ∷ not wanted.in_range gives BadNumber
    ∷ leb most_sites (length sites) gives Full
    ∷ name_taken sites wanted.site.name gives NameTaken
    ∷ place_taken sites wanted.site.place gives PlaceTaken
    ∷ []

-- The sites afterwards: this one stands last.
abbrev pub with_site : List Site → Wanted → List Site
with_site sites wanted = sites ++ (wanted.site ∷ [])

abbrev pub entered : List Site → Wanted → Result (List Site)
entered sites wanted = after_tests (enter_tests sites wanted) (with_site sites wanted)

-- "Coordinates are whole units from 0 to 10,000": of what is given or written, a number in range.
abbrev pub is_coordinate : Option ℕ → Bool
is_coordinate none = false
is_coordinate (some n) = leb n greatest_coordinate

-- A name, an x and a y to enter. Where x or y is no number the place has a 0 for it, which no test sees: 3 is tested before those.
abbrev pub wanted_of : List ℕ → Option ℕ → Option ℕ → Wanted
wanted_of name x y =
    record {
      named = is_name name;
      in_range = is_coordinate x && is_coordinate y;
      site = record { name = name; place = place_at (or_zero x) (or_zero y) };
    }

-- The call is given two numbers.
abbrev pub wanted_at : List ℕ → ℕ → ℕ → Wanted
wanted_at name x y = wanted_of name (some x) (some y)

-- ---- reading a list

-- "A line has at most 20 bytes before its line feed."
abbrev pub most_line_bytes : ℕ
most_line_bytes = 20

-- A line has "name, x, y" in its first three fields.
abbrev pub wanted_in : List (List ℕ) → Wanted
wanted_in fields = wanted_of (get_or fields 0 []) (number_in (get_or fields 1 [])) (number_in (get_or fields 2 []))

-- The place that the fields of a line write.
abbrev pub place_in : List (List ℕ) → Place
place_in fields = (wanted_in fields).site.place

-- A line of a text with what follows it: ended by a line feed, or the last bytes of a text that ends without one.
pub record TextLine : Type 0 where
  pub bytes : List ℕ
  pub ended : Bool
  pub rest : List ℕ

-- The first line of a text.
pub data FirstLine : List ℕ → TextLine → Type 0 where
  with_feed : {bytes rest : List ℕ} → Without line_feed bytes
      → FirstLine (bytes ++ (line_feed ∷ rest)) (record { bytes = bytes; ended = true; rest = rest })
  without_feed : {b : ℕ} {bytes : List ℕ} → Without line_feed (b ∷ bytes)
      → FirstLine (b ∷ bytes) (record { bytes = b ∷ bytes; ended = false; rest = [] })

-- "A line of other than three fields", and the tests of entering it.
abbrev pub fields_tests : List Site → List (List ℕ) → List Test
fields_tests sites fields = not (eqb (length fields) 3) gives BadLine ∷ enter_tests sites (wanted_in fields)

-- "Over 20 bytes, or without its line feed." "Reading does so line after line with 1 before 2."
abbrev pub line_tests : List Site → TextLine → List Test
line_tests sites line =
    not line.ended gives BadLine
    ∷ ltb most_line_bytes (length line.bytes) gives BadLine
    ∷ fields_tests sites (fields_of line.bytes)

-- What a line comes to: the sites afterwards, or its refusal.
abbrev pub line_entered : List Site → TextLine → Result (List Site)
line_entered sites line = after_tests (line_tests sites line) (with_site sites (wanted_in (fields_of line.bytes)))

-- Reading a text after these sites: its end, a refused line, or an accepted line and then the rest. It "stops at the first refused line".
pub data Reads : List Site → List ℕ → Result (List Site) → Type 0 where
  end : {sites : List Site} → Reads sites [] (accepted sites)
  refused_line : {sites : List Site} {text : List ℕ} {line : TextLine} {why : Refusal} → FirstLine text line
      → line_entered sites line ≡ refused why → Reads sites text (refused why)
  accepted_line : {sites next : List Site} {text : List ℕ} {line : TextLine} {result : Result (List Site)} → FirstLine text line
      → line_entered sites line ≡ accepted next → Reads next line.rest result → Reads sites text result

-- The most bytes that the program reads, "these already decide every longer text": a line for each site and one more, with their line
-- feeds, 5,061 bytes.
abbrev pub longest_text : ℕ
longest_text = (most_sites + 1) * (most_line_bytes + 1)
