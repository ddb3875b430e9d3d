-- When one site asks another one: what is taken up, what is in the way, and when the true difference is told.
use Rattle.std.proofs.Common.{◌≡◌, ℕ, ◌+◌, ◌-◌, ◌<◌, ◌≤◌, Bool, true, ◌⊎◌, List, [], ◌∷◌, length, Some, None, Ok, Err, refl, ap, ◌∙◌, subst, inl, inr, arith}
use Rattle.std.proofs.lemmas.List.{get_or-set_same, get_or-set_other}
use Rattle.std.proofs.lemmas.Bool.{cases_order}
use Rattle.std.proofs.lemmas.Bool.Decides.{nat_tests}
use Rattle.field.specs.Prime.{Prime}
use Rattle.sorted.specs.Lists.{has, rising, all_below, only, differ, put_all, without_all, brought}
use Rattle.sorted.proofs.Members.{has_below, equal_by_members, rising_none}
use Rattle.sorted.proofs.Difference.{only_has}
use Rattle.sorted.proofs.Distance.{brought_there}
use Rattle.sorted.proofs.Union.{put_all_has, put_all_rising}
use Rattle.letter.specs.Desks.{Told}
use Rattle.letter.specs.Letter.{letter}
use Rattle.letter.specs.Refusals.{capacity}
use Rattle.letter.specs.declared.refusals.Refusal.{Refusal}
use Rattle.letter.specs.declared.refusals.Refusal.TheVariants.{Memory}
use Rattle.letter.proofs.Halting.{Halts, replacing_stop}
use Rattle.letter.proofs.Keeping.{up_to_date}
use Rattle.explain.specs.Explanation.{Explains}
use Rattle.explain.proofs.Subsets.{all_in_has, none_in_has}
use Rattle.sites.specs.Asking.{Between, Halted, Unmet, AskSays, AskTruly, met}
use Rattle.sites.specs.Ladder.{rungs, Answers, Unanswered, Truthful, gone_of, come_of}
use Rattle.sites.specs.Network.{list_at}
use Rattle.sites.specs.Site.{site_list}
use Rattle.sites.specs.Taking.{taken_up, Untaken}
use Rattle.sites.specs.declared.ladder.Reading.{Reading}
use Rattle.sites.specs.declared.ladder.Way.{Way}
use Rattle.sites.specs.declared.ladder.Way.TheVariants.{Take, Join}
use Rattle.sites.specs.declared.site.Site.{Site}
use Rattle.sites.proofs.Bringing.{found_explains, explained_halts, left_length, few_there}
use Rattle.sites.proofs.Climbing.{climbed_true, climbed_somewhere, near_truthful}

-- what is read explains a letter of the list there at every point
answers_explain : (p : ℕ) (there here ms : List ℕ) (sent : ℕ) (r : Reading)
    → Answers p there here ms sent r
    → (m : ℕ) × Explains p m (letter p m there) here (gone_of r) (come_of r)
unfolding Answers
answers_explain p there here [] sent r answers = absurd answers
answers_explain p there here (m ∷ ms) sent r (inl reads) = (m, found_explains p m (m - 1) (letter p m there) here (gone_of r) (come_of r) reads.told.found)
answers_explain p there here (m ∷ ms) sent r (inr later) = answers_explain p there here ms (sent + m) r later.1

none_there : (n : ℕ) (b : Bool) → has [] n ≡ true → b ≡ true
unfolding has
none_there n b h = grind (arith, nat_tests)

-- what is in the way of taking up what was read
pub halted : (p : ℕ) (w : Way) (there here : List ℕ) (r : Reading) (e : Refusal)
    → rising here ≡ true
    → length there ≤ 60000
    → Answers p there here rungs 0 r
    → Untaken p w here (gone_of r) (come_of r) e
    → Halted p w here (come_of r) e
unfolding Untaken letter without_all
halted p w there here r e rises few answers (inl memory) = inl memory
halted p Take there here r e rises few answers (inr stopped) =
    narrow (explained_halts p explained.0 64 (letter p explained.0 there) here (gone_of r) (come_of r) e rises explained.1 stopped)
  where
    explained : (m : ℕ) × Explains p m (letter p m there) here (gone_of r) (come_of r)
    explained = answers_explain p there here rungs 0 r answers

    left : length (without_all (gone_of r) here) + length (gone_of r) ≡ length here
    left =
        left_length (gone_of r) here explained.1.gone_rising rises (λ n h. all_in_has (gone_of r) here n explained.1.gone_here h)

    narrow : Halts p 64 (without_all (gone_of r) here) (come_of r) e → Halted p Take here (come_of r) e
    narrow (inl memory) = inl memory
    narrow (inr (inl five)) = inr (inl five)
    narrow (inr (inr (seven, many))) = absurd (omega (arith, many, left, explained.1.count))
halted p Join there here r e rises few answers (inr stopped) =
    widen
    (replacing_stop p 64 [] (come_of r) here e (rising_none [] refl) explained.1.come_rising rises (λ n h. none_there n (has here n) h)
    (λ n h. none_in_has (come_of r) here n explained.1.come_not h)
    stopped)
  where
    explained : (m : ℕ) × Explains p m (letter p m there) here (gone_of r) (come_of r)
    explained = answers_explain p there here rungs 0 r answers

    widen : Halts p 64 here (come_of r) e → Halted p Join here (come_of r) e
    widen (inl memory) = inl memory
    widen (inr (inl five)) = inr (inl five)
    widen (inr (inr seven)) = inr (inr (refl, seven))

-- what truly differs, put in, makes the union
put_only : (there here : List ℕ) → rising here ≡ true → put_all (only there here) here ≡ put_all there here
put_only there here s =
    equal_by_members (put_all (only there here) here) (put_all there here) (put_all_rising (only there here) here s) (put_all_rising there here s)
    (λ k.
    let a = put_all_has (only there here) here k in
    let b = put_all_has there here k in
    let c = only_has there here k in
    grind (arith, nat_tests))

met_by : (w : Way) (there here gone come : List ℕ)
    → rising there ≡ true
    → rising here ≡ true
    → gone ≡ only here there
    → come ≡ only there here
    → taken_up w here gone come ≡ met w there here
met_by Take there here gone come r s gone_is come_is =
    ap (λ t. brought here t come) gone_is ∙ ap (brought here (only here there)) come_is ∙ brought_there there here r s
met_by Join there here gone come r s gone_is come_is = ap (λ t. put_all t here) come_is ∙ put_only there here s

-- before a letter is read
pub unasked_truly : (p i j : ℕ) (w : Way) (ls : List (List ℕ)) (e : Refusal) → (Between ls i j → ⊥) → AskTruly p i j w ls ls (Err e)
unasked_truly p i j w ls e not =
    record { near = λ between close truthful. absurd (not between); far = λ away truthful. tt; others = λ k apart. refl }

-- two sites and their lists
pub record Met {p : ℕ} (there here : Site p) (ls : List (List ℕ)) (i j : ℕ) : Type 0 where
  pub between : Between ls i j
  pub there_is : site_list there ≡ list_at ls j
  pub here_is : site_list here ≡ list_at ls i

pub met_at : {p : ℕ} (there here : Site p) (ls : List (List ℕ)) (i j : ℕ)
    → (i < length ls) × (site_list here ≡ list_at ls i)
    → (j < length ls) × (site_list there ≡ list_at ls j)
    → (i ≡ j → ⊥)
    → Met there here ls i j
met_at there here ls i j asker asked apart =
    record {
      between = record { asker = asker.0; asked = asked.0; apart = apart };
      there_is = asked.1;
      here_is = asker.1;
    }

module _ {p : ℕ} (there here : Site p) (ls : List (List ℕ)) (i j : ℕ) (w : Way) (two : Met there here ls i j) where
  rises : (x : Site p) (ns : List ℕ) → site_list x ≡ ns → rising ns ≡ true
  rises x ns is = subst (λ (t : List ℕ). rising t ≡ true) is (up_to_date x.desk).in_order

  low : (x : Site p) (ns : List ℕ) → site_list x ≡ ns → all_below (p - 64) ns ≡ true
  low x ns is =
      subst (λ (t : List ℕ). all_below (p - 64) t ≡ true) is
      (subst (λ (m : ℕ). all_below (p - m) (site_list x) ≡ true) x.size (up_to_date x.desk).small)

  prime : ∥ Prime p ∥₁
  prime = here.desk.modulus.prime

  room : 64 < p
  room = subst (λ (m : ℕ). m < p) here.size here.desk.room

  -- what is read is the true difference, if no letter is taken in
  read_truly : (r : Reading)
      → Truthful p (list_at ls j) (list_at ls i)
      → Answers p (list_at ls j) (list_at ls i) rungs 0 r
      → (gone_of r ≡ only (list_at ls i) (list_at ls j)) × (come_of r ≡ only (list_at ls j) (list_at ls i)) × (differ (list_at ls j) (list_at ls i) < 64)
  read_truly r truthful answers =
      climbed_true p (list_at ls j) (list_at ls i) prime room (rises there (list_at ls j) two.there_is) (rises here (list_at ls i) two.here_is)
      (low there (list_at ls j) two.there_is) (low here (list_at ls i) two.here_is) r truthful answers

  -- where few differ nothing has to be supposed
  supposed : (6 < differ (list_at ls j) (list_at ls i) → Truthful p (list_at ls j) (list_at ls i)) → Truthful p (list_at ls j) (list_at ls i)
  supposed truthful = go (cases_order 6 (differ (list_at ls j) (list_at ls i)))
    where
      go : (6 ≡ differ (list_at ls j) (list_at ls i)) ⊎ ((6 < differ (list_at ls j) (list_at ls i)) ⊎ (differ (list_at ls j) (list_at ls i) < 6))
          → Truthful p (list_at ls j) (list_at ls i)
      go (inl same) = near_truthful p (list_at ls j) (list_at ls i) (omega arith)
      go (inr (inl more)) = truthful more
      go (inr (inr fewer)) = near_truthful p (list_at ls j) (list_at ls i) (omega arith)

  pub together_truly : (ls₁ : List (List ℕ)) (r : Reading) → AskSays p i j w ls ls₁ (Ok (Some r)) → AskTruly p i j w ls ls₁ (Ok (Some r))
  together_truly ls₁ r says =
      let answers = says.1.0 in
      let after = says.1.1 in
      record {
        near = λ between close truthful.
            let same = read_truly r (supposed truthful) answers in (
              same.0,
              same.1,
              ap (λ t. list_at t i) after
                  ∙ get_or-set_same ls i (taken_up w (list_at ls i) (gone_of r) (come_of r)) [] between.asker
                  ∙ met_by w (list_at ls j) (list_at ls i) (gone_of r) (come_of r) (rises there (list_at ls j) two.there_is)
                  (rises here (list_at ls i) two.here_is) same.0 same.1,
            );
        far = λ away truthful. let same = read_truly r truthful answers in omega (arith, same.2);
        others = λ k apart. ap (λ t. list_at t k) after ∙ get_or-set_other ls i k (taken_up w (list_at ls i) (gone_of r) (come_of r)) [] apart;
      }

  pub more_truly : (ls₁ : List (List ℕ)) → AskSays p i j w ls ls₁ (Ok None) → AskTruly p i j w ls ls₁ (Ok None)
  more_truly ls₁ says =
      record {
        near = λ between close truthful.
            climbed_somewhere p (list_at ls j) (list_at ls i) prime room (rises there (list_at ls j) two.there_is)
            (rises here (list_at ls i) two.here_is) (low there (list_at ls j) two.there_is) (low here (list_at ls i) two.here_is) close says.1.0;
        far = λ away truthful. tt;
        others = λ k apart. ap (λ t. list_at t k) says.1.1;
      }

  unmet_near : (e : Refusal)
      → (6 < differ (list_at ls j) (list_at ls i) → Truthful p (list_at ls j) (list_at ls i))
      → Unmet p w (list_at ls j) (list_at ls i) e
      → (e ≡ Memory) ⊎ ((w ≡ Join) × Told 7 capacity e)
  unmet_near e truthful unmet = go unmet.why
    where
      go : Halted p w (list_at ls i) (come_of unmet.reading) e → (e ≡ Memory) ⊎ ((w ≡ Join) × Told 7 capacity e)
      go (inl memory) = inl memory
      go (inr (inr (joins, seven))) = inr (joins, seven.0)
      go (inr (inl (n, (told, comes, large)))) =
          let same = read_truly unmet.reading (supposed truthful) unmet.answers in
          let a = ap (λ t. has t n) same.1 in
          let b = only_has (list_at ls j) (list_at ls i) n in
          let inside : has (list_at ls j) n ≡ true = grind (arith, nat_tests) in
          absurd (omega (arith, has_below (p - 64) n (list_at ls j) inside (low there (list_at ls j) two.there_is)))

  pub unmet_truly : (ls₁ : List (List ℕ)) (e : Refusal)
      → ls₁ ≡ ls
      → Unmet p w (list_at ls j) (list_at ls i) e
      → AskTruly p i j w ls ls₁ (Err e)
  unmet_truly ls₁ e same unmet =
      record {
        near = λ between close truthful. unmet_near e truthful unmet;
        far = λ away truthful. tt;
        others = λ k apart. ap (λ t. list_at t k) same;
      }

  -- what was read, by the lists' places
  pub answers_at : (r : Reading) → Answers p (site_list there) (site_list here) rungs 0 r → Answers p (list_at ls j) (list_at ls i) rungs 0 r
  answers_at r answers =
      subst (λ (t : List ℕ). Answers p (list_at ls j) t rungs 0 r) two.here_is
      (subst (λ (t : List ℕ). Answers p t (site_list here) rungs 0 r) two.there_is answers)

  pub unanswered_at : Unanswered p (site_list there) (site_list here) rungs → Unanswered p (list_at ls j) (list_at ls i) rungs
  unanswered_at none =
      subst (λ (t : List ℕ). Unanswered p (list_at ls j) t rungs) two.here_is
      (subst (λ (t : List ℕ). Unanswered p t (site_list here) rungs) two.there_is none)

  -- what was not taken up, by the lists' places
  pub unmet_at : (x : Site p) (r : Reading) (e : Refusal)
      → site_list x ≡ list_at ls i
      → Answers p (site_list there) (site_list here) rungs 0 r
      → Untaken p w (site_list x) (gone_of r) (come_of r) e
      → Unmet p w (list_at ls j) (list_at ls i) e
  unmet_at x r e is answers untaken =
      record {
        reading = r;
        answers = answers_at r answers;
        why =
            halted p w (list_at ls j) (list_at ls i) r e (rises here (list_at ls i) two.here_is)
            (subst (λ (t : List ℕ). length t ≤ 60000) two.there_is (few_there there.desk)) (answers_at r answers)
            (subst (λ (t : List ℕ). Untaken p w t (gone_of r) (come_of r) e) is untaken);
      }
