-- The lists of several sites, before and after a request.
use Rattle.std.proofs.Common.{◌≡◌, ℕ, ◌<◌, List, [], ◌∷◌, map, length, get_or, nat_lt, set, None, Some, Ok, Err, Option, is_some, ok_or, Bor, IfSome, vec_items, vec_len, Result, sym, refl, ap, ◌∙◌, subst, inr, arith, MatchResult}
use Rattle.std.proofs.lemmas.List.{length-map, get_or-map, map-set, set-get_or}
use Rattle.std.proofs.lemmas.Bool.Decides.{nat_tests}
use Rattle.letter.specs.Desks.{desk_of}
use Rattle.letter.specs.Exchanges.{Done, NotDone, Free, next}
use Rattle.letter.specs.Letter.{Deed, letter}
use Rattle.letter.specs.declared.refusals.Refusal.{Refusal}
use Rattle.letter.specs.declared.refusals.Refusal.TheVariants.{Site as Absentee}
use Rattle.letter.proofs.Keeping.{up_to_date}
use Rattle.sites.specs.Network.{Absent, lists_of, letters_of, list_at, Right, Passed, NotPassed}
use Rattle.sites.specs.Site.{site_list}
use Rattle.sites.specs.declared.network.Sites.{Sites}
use Rattle.sites.specs.declared.site.Site.{Site}

pub sites_count : {p : ℕ} (s : Sites p) → vec_len s.sites ≡ length (lists_of s)
unfolding lists_of
sites_count s = s.sites.ok.0 ∙ sym (length-map (vec_items s.sites) (λ x. site_list x))

-- the list of the site at a place
pub list_here : {p : ℕ} (s : Sites p) (i : ℕ) (x : Site p)
    → i < vec_len s.sites
    → x ≡ get_or (vec_items s.sites) i x
    → site_list x ≡ list_at (lists_of s) i
unfolding lists_of
list_here s i x inside is =
    ap (λ y. site_list y) is
    ∙ sym (get_or-map (λ y. site_list y) (vec_items s.sites) i x [] (omega (arith, s.sites.ok.0)))

-- the lists where one site is another one now
pub lists_set : {p : ℕ} (s after : Sites p) (i : ℕ) (x : Site p)
    → vec_items after.sites ≡ set (vec_items s.sites) i x
    → lists_of after ≡ set (lists_of s) i (site_list x)
unfolding lists_of
lists_set s after i x is = ap (map (λ y. site_list y)) is ∙ map-set (λ y. site_list y) (vec_items s.sites) i x

pub lists_kept : {p : ℕ} (s after : Sites p) (i : ℕ) (x : Site p)
    → vec_items after.sites ≡ set (vec_items s.sites) i x
    → site_list x ≡ list_at (lists_of s) i
    → lists_of after ≡ lists_of s
lists_kept s after i x is same = lists_set s after i x is ∙ ap (set (lists_of s) i) same ∙ set-get_or (lists_of s) i []

-- each site keeps the letter of its list
right_each : {p : ℕ} (xs : List (Site p)) → map (λ x. (desk_of x.desk).letter_now) xs ≡ map (letter p 64) (map (λ x. site_list x) xs)
right_each [] = refl
right_each {p} (x ∷ xs) =
    ap (λ l. l ∷ map (λ y. (desk_of y.desk).letter_now) xs)
    ((up_to_date x.desk).letter_is ∙ ap (λ m. letter p m (site_list x)) x.size)
    ∙ ap (λ ls. letter p 64 (site_list x) ∷ ls) (right_each xs)

pub right : {p : ℕ} (s : Sites p) → Right s
unfolding Right lists_of letters_of
right s = right_each (vec_items s.sites)

-- a deed at one site
pub passed : {U : Type 0} {p : ℕ} (i : ℕ) (x : Deed) (s after : Sites p) (here here₁ : Site p) (start finish : ℕ) (r : Result U Refusal)
    → i < vec_len s.sites
    → here ≡ get_or (vec_items s.sites) i here
    → vec_items after.sites ≡ set (vec_items s.sites) i here₁
    → MatchResult r (λ _. Done p 64 x (site_list here) (site_list here₁) start finish) (NotDone p 64 x (site_list here) (site_list here₁))
    → MatchResult r (λ _. Passed p i x (lists_of s) (lists_of after) start finish) (NotPassed p i x (lists_of s) (lists_of after))
passed {p = p} i x s after here here₁ start finish (Ok u) inside is after_is done =
    let list_is = list_here s i here inside is in
    record {
      there = omega (arith, sites_count s);
      free = subst (λ (ns : List ℕ). Free p 64 ns x) list_is done.free;
      lists_are = lists_set s after i here₁ after_is ∙ ap (set (lists_of s) i) (done.list_is ∙ ap (λ ns. next ns x) list_is);
      counted = done.counted;
    }
passed {p = p} i x s after here here₁ start finish (Err e) inside is after_is not =
    let list_is = list_here s i here inside is in
    let all = subst (λ (ns : List ℕ). NotDone p 64 x ns (site_list here₁) e) list_is not in
    record {
      same = lists_kept s after i here₁ after_is all.same;
      why = inr (omega (arith, sites_count s), all.stops);
    }

-- the site at a place, or that there is none
pub found : {p : ℕ} (s : Sites p) (xs : List (Site p)) (i : ℕ) (o : Option (Bor (Site p)))
    → xs ≡ vec_items s.sites
    → is_some o ≡ nat_lt i (length xs)
    → IfSome o (λ x. x.now ≡ get_or xs i x.now)
    → MatchResult (ok_or o (Absentee i)) (λ x. (i < length (lists_of s)) × (site_list x.now ≡ list_at (lists_of s) i)) (Absent (lists_of s) i)
unfolding Absent
found s xs i None items has is = ((refl, refl), grind (arith, nat_tests, sites_count s, s.sites.ok.0))
found s xs i (Some x) items has is =
    let inside : i < vec_len s.sites = grind (arith, nat_tests, s.sites.ok.0) in
    (omega (arith, inside, sites_count s), list_here s i x.now inside (rw items at is))
