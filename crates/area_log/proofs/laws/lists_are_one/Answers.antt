use Rattle.area_log.proofs.LawLemmas.{headers_listed, keys_listed, one_before, one_listing}
use Rattle.area_log.proofs.laws.lists_are_one.Goals as goal

pub returns-clause-one_list : goal.returns-clause-one_list
returns-clause-one_list c g image area end other_end list other positive is also = one_listing g positive area image end other_end list other is also

pub returns-clause-one_before : goal.returns-clause-one_before
returns-clause-one_before c g image area found before other positive is also = one_before g positive area image found before other is also

pub returns-clause-headers : goal.returns-clause-headers
returns-clause-headers c g image area end list positive is = headers_listed g positive image area end list is

pub returns-clause-keys : goal.returns-clause-keys
returns-clause-keys c g image area end list positive is = keys_listed g positive image area end list is
