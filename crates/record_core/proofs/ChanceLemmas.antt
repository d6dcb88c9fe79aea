-- Each torn image holds no record by chance, or one of its records is the first that does.
use Rattle.std.proofs.Common.{◌≡◌, ◌⊎◌, ℕ, List, [], ◌∷◌, ◌++◌, length, refl, sym, ◌∙◌, subst, inl, inr, ⊎_elim}
use Rattle.flash_core.specs.declared.geometry.Geometry.{Geometry}
use Rattle.flash_core.specs.Images.{part}
use Rattle.flash_core.specs.Sizes.{IsValid}
use Rattle.flash_core.proofs.GeometryLaws.{prog_positive}
use Rattle.record_core.specs.Chance.{AllStand, BreaksAt, FirstBreak, NoChance, StandsInOne}
use Rattle.record_core.specs.Mounts.{Contents, Stand, reads_of}
use Rattle.record_core.proofs.Existence.{Known, known_bytes, known_one, some_contents}
use Rattle.record_core.proofs.MountLemmas.{one_contents, reads_stand}

module _ (before after : List ℕ) where
  pub known_stands : (read : ℕ × List ℕ) → Known (StandsInOne before after read)
  known_stands read = known_one (known_bytes (part before read.0 (length read.1)) read.1) (known_bytes (part after read.0 (length read.1)) read.1)

  abbrev AllOrBreak : List (ℕ × List ℕ) → Type 0
  AllOrBreak reads = AllStand before after reads ⊎ ((place : ℕ) × BreaksAt before after reads place)

  with_first : (read : ℕ × List ℕ) (reads : List (ℕ × List ℕ)) → Known (StandsInOne before after read) → AllOrBreak reads → AllOrBreak (read ∷ reads)
  with_first read reads (inl stands) (inl all) = inl (stands, all)
  with_first read reads (inl stands) (inr breaks) = inr (breaks.0, inr (stands, breaks.1))
  with_first read reads (inr not) rest = inr (read.0, inl (not, refl))

  all_or_break : (reads : List (ℕ × List ℕ)) → AllOrBreak reads
  all_or_break [] = inl tt
  all_or_break (read ∷ reads) = with_first read reads (known_stands read) (all_or_break reads)

  not_both : (reads : List (ℕ × List ℕ)) (place : ℕ) → AllStand before after reads → BreaksAt before after reads place → ⊥
  not_both [] place all breaks = breaks
  not_both (read ∷ reads) place all (inl first) = first.0 all.0
  not_both (read ∷ reads) place all (inr later) = not_both reads place all.1 later.1

  one_break : (reads : List (ℕ × List ℕ)) (p q : ℕ) → BreaksAt before after reads p → BreaksAt before after reads q → p ≡ q
  one_break [] p q at_p at_q = absurd at_p
  one_break (read ∷ reads) p q (inl at_p) (inl at_q) = sym at_p.1 ∙ at_q.1
  one_break (read ∷ reads) p q (inl at_p) (inr at_q) = absurd (at_p.0 at_q.0)
  one_break (read ∷ reads) p q (inr at_p) (inl at_q) = absurd (at_q.0 at_p.0)
  one_break (read ∷ reads) p q (inr at_p) (inr at_q) = one_break reads p q at_p.1 at_q.1

  -- behind what stands
  pub BreaksAt-append : (first rest : List (ℕ × List ℕ)) (place : ℕ) → AllStand before after first → BreaksAt before after rest place → BreaksAt before after (first ++ rest) place
  BreaksAt-append [] rest place all breaks = breaks
  BreaksAt-append (read ∷ reads) rest place all breaks = inr (all.0, BreaksAt-append reads rest place all.1 breaks)

  -- and before anything more
  pub BreaksAt-front : (first rest : List (ℕ × List ℕ)) (place : ℕ) → BreaksAt before after first place → BreaksAt before after (first ++ rest) place
  BreaksAt-front [] rest place breaks = absurd breaks
  BreaksAt-front (read ∷ reads) rest place (inl here) = inl here
  BreaksAt-front (read ∷ reads) rest place (inr later) = inr (later.0, BreaksAt-front reads rest place later.1)

  pub AllStand-append : (first rest : List (ℕ × List ℕ)) → AllStand before after first → AllStand before after rest → AllStand before after (first ++ rest)
  AllStand-append [] rest all more = more
  AllStand-append (read ∷ reads) rest all more = (all.0, AllStand-append reads rest all.1 more)

  pub stand_before : (reads : List (ℕ × List ℕ)) → Stand before reads → AllStand before after reads
  stand_before [] all = tt
  stand_before (read ∷ reads) all = (inl all.0, stand_before reads all.1)

  pub stand_after : (reads : List (ℕ × List ℕ)) → Stand after reads → AllStand before after reads
  stand_after [] all = tt
  stand_after (read ∷ reads) all = (inr all.0, stand_after reads all.1)

module _ (g : Geometry) (valid : IsValid g) (before after torn : List ℕ) where
  -- one or the other
  pub chance_or_break : NoChance g before after torn ⊎ ((place : ℕ) × FirstBreak g before after torn place)
  chance_or_break =
      let holds = some_contents g valid torn in
      ⊎_elim
      (λ (all : AllStand before after (reads_of g holds.0)). inl (λ contents is.
      subst (λ (c : Contents). AllStand before after (reads_of g c)) (one_contents g torn (prog_positive g valid) holds.0 contents holds.1 is) all))
      (λ (breaks : (place : ℕ) × BreaksAt before after (reads_of g holds.0) place). inr (breaks.0, record { contents = holds.0; holds = holds.1; breaks = breaks.1 }))
      (all_or_break before after (reads_of g holds.0))

  -- never both
  pub chance_excludes_break : (place : ℕ) → NoChance g before after torn → FirstBreak g before after torn place → ⊥
  chance_excludes_break place chance first =
      not_both before after (reads_of g first.contents) place (chance first.contents first.holds) first.breaks

  -- at one place
  pub one_first_break : (p q : ℕ) → FirstBreak g before after torn p → FirstBreak g before after torn q → p ≡ q
  one_first_break p q at_p at_q =
      one_break before after (reads_of g at_p.contents) p q at_p.breaks
      (subst (λ (c : Contents). BreaksAt before after (reads_of g c) q) (one_contents g torn (prog_positive g valid) at_q.contents at_p.contents at_q.holds at_p.holds) at_q.breaks)

-- the two whole images hold nothing by chance
module _ (g : Geometry) (valid : IsValid g) (before after : List ℕ) where
  pub no_chance_before : NoChance g before after before
  no_chance_before contents holds = stand_before before after (reads_of g contents) (reads_stand g before (prog_positive g valid) contents holds)

  pub no_chance_after : NoChance g before after after
  no_chance_after contents holds = stand_after before after (reads_of g contents) (reads_stand g after (prog_positive g valid) contents holds)
