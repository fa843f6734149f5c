use Rattle.std.proofs.Common.{length, ◌/◌, rules}
use Rattle.std.specs.Simd.{first_chunks}
use Rattle.std.proofs.lemmas.Iterator.{YieldsList-from_slice, YieldsList-from_map, items_from_collect}
use Rattle.day.proofs.Chunks.{word_of, words_in_chunks}
use Rattle.day.proofs.bytes.words.Goals as goal

pub returns : goal.returns
returns c =
    let bytes = c.args.bytes.now in
    let chunks = first_chunks 4 (length bytes / 4) bytes in
    rw (words_in_chunks bytes) at
    (items_from_collect _ c.collect.ensures.ran
    (YieldsList-from_map _ word_of (YieldsList-from_slice chunks (cc)) c.map.ensures.closure (λ x r q k. search rules)))
