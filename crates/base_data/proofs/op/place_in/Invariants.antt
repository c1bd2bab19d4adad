use Rattle.std.proofs.Common.{◌≡◌, drop}
use Rattle.base_data.specs.Op.{place_from, now_all}
use Rattle.base_data.proofs.op.place_in.Given as goal

abbrev pub invariant-loop-place : goal.invariant-loop-place
invariant-loop-place l = place_from l.place l.text (now_all (drop l.place l.texts)) ≡ place_from 0 l.text (now_all l.texts)
