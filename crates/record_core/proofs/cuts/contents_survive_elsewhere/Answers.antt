use Rattle.record_core.proofs.TornLemmas.{apart_behind_end, apart_in_spare, contents_stay}
use Rattle.record_core.proofs.cuts.contents_survive_elsewhere.Goals as goal

pub returns : goal.returns
returns goals = record {
  apart = λ g before torn c place n valid sized cut. contents_stay g valid before torn sized place n cut c;
  behind_end = λ g before torn c k place n valid sized cut holds active inside behind erased.
      contents_stay g valid before torn sized place n cut c holds (apart_behind_end g valid before c holds k place n active inside behind erased);
  in_spare = λ g before torn c k place n valid sized cut holds spare inside behind erased.
      contents_stay g valid before torn sized place n cut c holds (apart_in_spare g valid before c holds k place n spare inside behind erased);
}
