-- For tests: what a list begins with after a push that may fail.
use Rattle.std.proofs.Common.{◌≡◌, List, ◌++◌, sym}
use mathlib.Core.List.{IsPrefix}
use Rattle.kv_model.specs.declared.call.Entry.{Entry}
use Rattle.turn_lock.proofs.Prefixes.{whole_begins}

pub same : (xs : List Entry) → IsPrefix xs xs
same xs = whole_begins xs

pub more : (xs ys zs : List Entry) → ys ≡ xs ++ zs → IsPrefix xs ys
more xs ys zs e = (zs, sym e)
