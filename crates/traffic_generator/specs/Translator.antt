-- The middlebox that the packets are for.
use Rattle.std.specs.Prelude.{ℕ, List, [], ◌∷◌, ◌++◌, codes}
use Rattle.std.specs.List.{flat_map}
use Rattle.resource_limits.specs.declared.limits.Limits.{Limits}

-- lines, each of which ends with LF
abbrev pub lines_text : List (List ℕ) → List ℕ
lines_text lines = flat_map (λ line. line ++ 10 ∷ []) lines

-- An address translator with port 0 inside, port 1 outside and the public address 192.0.2.1. The switch has both maps,
-- with one write each; the lookup of `next` stands in a repeat, so the server alone has it.
abbrev pub translator_lines : List (List ℕ)
translator_lines =
    codes "map out (32, 16) -> (16) capacity 60000;"
    ∷ codes "map back (16) -> (32, 16) capacity 60000;"
    ∷ codes "int next : 16 = 1024;"
    ∷ codes "process {"
    ∷ codes "  if has.tcp == 0:1 { drop; }"
    ∷ codes "  if meta.port == 0:8 {"
    ∷ codes "    look f, p = out[ip.src, tcp.sport];"
    ∷ codes "    let q = p;"
    ∷ codes "    if f == 0:1 {"
    ∷ codes "      repeat i 1 {"
    ∷ codes "        look g, n = next[];"
    ∷ codes "        put a = out[ip.src, tcp.sport] -> n;"
    ∷ codes "        if a == 0:1 { drop; }"
    ∷ codes "        put b = back[n] -> ip.src, tcp.sport;"
    ∷ codes "        put c = next[] -> n + 1:16;"
    ∷ codes "        q = n;"
    ∷ codes "      }"
    ∷ codes "    }"
    ∷ codes "    ip.sum = adjust(adjust(ip.sum, cast(16, ip.src >> 16), 0xc000:16),"
    ∷ codes "                    cast(16, ip.src), 0x0201:16);"
    ∷ codes "    tcp.sum = adjust(adjust(adjust(tcp.sum, cast(16, ip.src >> 16), 0xc000:16),"
    ∷ codes "                    cast(16, ip.src), 0x0201:16), tcp.sport, q);"
    ∷ codes "    ip.src = 0xc0000201:32;"
    ∷ codes "    tcp.sport = q;"
    ∷ codes "    send 1:8;"
    ∷ codes "  }"
    ∷ codes "  if ip.dst != 0xc0000201:32 { drop; }"
    ∷ codes "  look h, da, dp = back[tcp.dport];"
    ∷ codes "  if h == 0:1 { drop; }"
    ∷ codes "  ip.sum = adjust(adjust(ip.sum, cast(16, ip.dst >> 16), cast(16, da >> 16)),"
    ∷ codes "                  cast(16, ip.dst), cast(16, da));"
    ∷ codes "  tcp.sum = adjust(adjust(adjust(tcp.sum, cast(16, ip.dst >> 16), cast(16, da >> 16)),"
    ∷ codes "                  cast(16, ip.dst), cast(16, da)), tcp.dport, dp);"
    ∷ codes "  ip.dst = da;"
    ∷ codes "  tcp.dport = dp;"
    ∷ codes "  send 0:8;"
    ∷ codes "}"
    ∷ []

abbrev pub translator_text : List ℕ
translator_text = lines_text translator_lines

-- the limits of its split
abbrev pub translator_limits : Limits
translator_limits = record { table_bits = 100000000; stages = 32; writeback = 16; transfer_bytes = 64 }
